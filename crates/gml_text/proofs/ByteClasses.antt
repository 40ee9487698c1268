-- Which classes of bytes have no byte in common.
use Rattle.std.proofs.Common.{◌≡◌, ℕ, true, false, eqb, arith}
use Rattle.std.proofs.lemmas.Bool.Decides.{nat_tests}
use Rattle.gml_text.specs.Bytes.{is_white, is_letter, is_digit, is_key_byte, is_sign, is_mark, is_either, ends_word, is_word_byte}

pub key_byte-word : (b : ℕ) → is_key_byte b ≡ true → is_word_byte b ≡ true
key_byte-word b h = grind (arith, nat_tests)

pub letter-key_byte : (b : ℕ) → is_letter b ≡ true → is_key_byte b ≡ true
letter-key_byte b h = grind (arith, nat_tests)

pub word-white : (b : ℕ) → is_word_byte b ≡ true → is_white b ≡ false
word-white b h = grind (arith, nat_tests)

pub word-hash : (b : ℕ) → is_word_byte b ≡ true → eqb b 35 ≡ false
word-hash b h = grind (arith, nat_tests)

pub ends-digit : (b : ℕ) → ends_word b ≡ true → is_digit b ≡ false
ends-digit b h = grind (arith, nat_tests)

pub ends-point : (b : ℕ) → ends_word b ≡ true → eqb b 46 ≡ false
ends-point b h = grind (arith, nat_tests)

pub ends-sign : (b : ℕ) → ends_word b ≡ true → is_sign b ≡ false
ends-sign b h = grind (arith, nat_tests)

pub ends-mark : (b : ℕ) → ends_word b ≡ true → is_mark b ≡ false
ends-mark b h = grind (arith, nat_tests)

pub ends-either_i : (b : ℕ) → ends_word b ≡ true → is_either 73 b ≡ false
ends-either_i b h = grind (arith, nat_tests)

pub ends-either_n : (b : ℕ) → ends_word b ≡ true → is_either 78 b ≡ false
ends-either_n b h = grind (arith, nat_tests)

pub ends-either_f : (b : ℕ) → ends_word b ≡ true → is_either 70 b ≡ false
ends-either_f b h = grind (arith, nat_tests)

pub ends-either_a : (b : ℕ) → ends_word b ≡ true → is_either 65 b ≡ false
ends-either_a b h = grind (arith, nat_tests)

pub digit-sign : (b : ℕ) → is_digit b ≡ true → is_sign b ≡ false
digit-sign b h = grind (arith, nat_tests)

pub mark-digit : (b : ℕ) → is_mark b ≡ true → is_digit b ≡ false
mark-digit b h = grind (arith, nat_tests)

pub mark-point : (b : ℕ) → is_mark b ≡ true → eqb b 46 ≡ false
mark-point b h = grind (arith, nat_tests)

pub either_i-sign : (b : ℕ) → is_either 73 b ≡ true → is_sign b ≡ false
either_i-sign b h = grind (arith, nat_tests)

pub either_i-digit : (b : ℕ) → is_either 73 b ≡ true → is_digit b ≡ false
either_i-digit b h = grind (arith, nat_tests)

pub either_i-point : (b : ℕ) → is_either 73 b ≡ true → eqb b 46 ≡ false
either_i-point b h = grind (arith, nat_tests)

pub either_n-sign : (b : ℕ) → is_either 78 b ≡ true → is_sign b ≡ false
either_n-sign b h = grind (arith, nat_tests)

pub either_n-digit : (b : ℕ) → is_either 78 b ≡ true → is_digit b ≡ false
either_n-digit b h = grind (arith, nat_tests)

pub either_n-point : (b : ℕ) → is_either 78 b ≡ true → eqb b 46 ≡ false
either_n-point b h = grind (arith, nat_tests)

pub either_n-either_i : (b : ℕ) → is_either 78 b ≡ true → is_either 73 b ≡ false
either_n-either_i b h = grind (arith, nat_tests)
