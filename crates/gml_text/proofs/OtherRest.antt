-- Tokens with other bytes behind them.
use Rattle.std.proofs.Common.{◌≡◌, ℕ, ◌<◌, true, List, [], ◌∷◌, ◌++◌, length, refl, sym, ap, subst, ◌∙◌, inl, inr, arith, append_assoc}
use Rattle.std.proofs.lemmas.List.{length-append}
use Rattle.gml_text.specs.Grammar.{is_behind_word, Stands, KeyStands}
use Rattle.gml_text.specs.Reading.{BeginAlike, Follows}
use Rattle.gml_text.specs.Items.{FoundStands}
use Rattle.gml_text.specs.declared.item.Found.{Found}
use Rattle.gml_text.specs.declared.item.Found.TheVariants.{Number, Text, Open}
use Rattle.gml_text.proofs.Words.{key_word}
use Rattle.gml_text.proofs.NumberWords.{number_word}

-- bytes with the same front begin alike
pub alike_front : (front one two : List ℕ) → 0 < length front → BeginAlike (front ++ one) (front ++ two)
alike_front [] one two some = absurd (omega arith)
alike_front (b ∷ bs) one two some = record { first = b; more = bs ++ one; rest = bs ++ two; of_one = refl; of_two = refl }

pub alike_byte : (front : List ℕ) (b : ℕ) (one two : List ℕ) → BeginAlike (front ++ (b ∷ one)) (front ++ (b ∷ two))
alike_byte [] b one two = record { first = b; more = one; rest = two; of_one = refl; of_two = refl }
alike_byte (c ∷ cs) b one two = record { first = c; more = cs ++ (b ∷ one); rest = cs ++ (b ∷ two); of_one = refl; of_two = refl }

-- so they follow the same tokens
pub follows_same : (rest : List ℕ) → Follows rest rest
follows_same [] = inl refl
follows_same (b ∷ bs) = inr (record { first = b; more = bs; rest = bs; of_one = refl; of_two = refl })

pub alike_behind : (one two : List ℕ) → BeginAlike one two → is_behind_word two ≡ true → is_behind_word one ≡ true
alike_behind one two a h = ap is_behind_word a.of_one ∙ sym (ap is_behind_word a.of_two) ∙ h

pub follows_behind : (more rest : List ℕ) → is_behind_word rest ≡ true → Follows more rest → is_behind_word more ≡ true
follows_behind more rest h (inl e) = e
follows_behind more rest h (inr a) = alike_behind more rest a h

-- the gap and the text of a token are some bytes
pub some_text : (gap text : List ℕ) → 0 < length text → 0 < length (gap ++ text)
some_text gap text some = omega (arith, length-append gap text)

-- a text that stands behind a gap, with other bytes behind it
pub stands_split : (text bytes rest : List ℕ) (s : Stands text bytes rest) → bytes ≡ (s.gap ++ text) ++ rest
stands_split text bytes rest s = s.whole ∙ sym (append_assoc s.gap text rest)

pub stands_other : (text bytes rest : List ℕ) (s : Stands text bytes rest) (other : List ℕ) → Stands text ((s.gap ++ text) ++ other) other
stands_other text bytes rest s other = record { gap = s.gap; whole = append_assoc s.gap text other; is_gap = s.is_gap }

-- a text that stands behind a gap, with more bytes at the end
pub stands_more : (text bytes rest more : List ℕ) → Stands text bytes rest → Stands text (bytes ++ more) (rest ++ more)
stands_more text bytes rest more s =
    record {
      gap = s.gap;
      whole = ap (λ (xs : List ℕ). xs ++ more) s.whole ∙ append_assoc s.gap (text ++ rest) more ∙ ap (λ (xs : List ℕ). s.gap ++ xs) (append_assoc text rest more);
      is_gap = s.is_gap;
    }

-- the beginning of a value, with other bytes behind it
pub record FoundRead (found : Found) (bytes rest : List ℕ) : Type 0 where
  pub read : List ℕ
  pub split : bytes ≡ read ++ rest
  pub some : 0 < length read
  pub other : (more : List ℕ) → Follows more rest → FoundStands found (read ++ more) more

pub found_read : (found : Found) (bytes rest : List ℕ) → FoundStands found bytes rest → FoundRead found bytes rest
found_read (Number text) bytes rest s =
    record {
      read = s.stands.gap ++ text.now;
      split = stands_split text.now bytes rest s.stands;
      some = some_text s.stands.gap text.now (number_word text.now s.is_number).some;
      other = λ more f. record { stands = stands_other text.now bytes rest s.stands more; is_number = s.is_number; ends = follows_behind more rest s.ends f };
    }
found_read (Text text) bytes rest s =
    record {
      read = s.stands.gap ++ (34 ∷ (text.now ++ (34 ∷ [])));
      split = stands_split (34 ∷ (text.now ++ (34 ∷ []))) bytes rest s.stands;
      some = some_text s.stands.gap (34 ∷ (text.now ++ (34 ∷ []))) (omega arith);
      other = λ more f. record { stands = stands_other (34 ∷ (text.now ++ (34 ∷ []))) bytes rest s.stands more; no_quote = s.no_quote };
    }
found_read Open bytes rest s =
    record {
      read = s.gap ++ (91 ∷ []);
      split = stands_split (91 ∷ []) bytes rest s;
      some = some_text s.gap (91 ∷ []) (omega arith);
      other = λ more f. stands_other (91 ∷ []) bytes rest s more;
    }

-- a key, with other bytes behind it that end it
pub key_other : (key bytes value : List ℕ) (s : KeyStands key bytes value) (other : List ℕ) → is_behind_word other ≡ true → KeyStands key ((s.stands.gap ++ key) ++ other) other
key_other key bytes value s other ends = record { stands = stands_other key bytes value s.stands other; is_key = s.is_key; ends = ends }

-- the same with some bytes before others
pub key_before : (key bytes value : List ℕ) (s : KeyStands key bytes value) (read other : List ℕ) → is_behind_word (read ++ other) ≡ true → KeyStands key (((s.stands.gap ++ key) ++ read) ++ other) (read ++ other)
key_before key bytes value s read other ends =
    subst (λ (xs : List ℕ). KeyStands key xs (read ++ other)) (sym (append_assoc (s.stands.gap ++ key) read other)) (key_other key bytes value s (read ++ other) ends)

pub key_split : (key bytes value : List ℕ) (s : KeyStands key bytes value) (read rest : List ℕ) → value ≡ read ++ rest → bytes ≡ ((s.stands.gap ++ key) ++ read) ++ rest
key_split key bytes value s read rest e =
    stands_split key bytes value s.stands ∙ ap (λ (xs : List ℕ). (s.stands.gap ++ key) ++ xs) e ∙ sym (append_assoc (s.stands.gap ++ key) read rest)

pub key_some : (key bytes value : List ℕ) (s : KeyStands key bytes value) (read : List ℕ) → 0 < length ((s.stands.gap ++ key) ++ read)
key_some key bytes value s read =
    omega (arith, length-append (s.stands.gap ++ key) read, some_text s.stands.gap key (key_word key s.is_key).some)

-- a key with the beginning of its value, with other bytes behind them
pub record PairRead (key : List ℕ) (found : Found) (bytes rest : List ℕ) : Type 0 where
  pub read : List ℕ
  pub split : bytes ≡ read ++ rest
  pub some : 0 < length read
  pub other : (more : List ℕ) → Follows more rest → (value : List ℕ) × KeyStands key (read ++ more) value × FoundStands found value more

pub pair_read : (key : List ℕ) (found : Found) (bytes value rest : List ℕ) → KeyStands key bytes value → FoundStands found value rest → PairRead key found bytes rest
pair_read key found bytes value rest s f =
    let r = found_read found value rest f in
    record {
      read = (s.stands.gap ++ key) ++ r.read;
      split = key_split key bytes value s r.read rest r.split;
      some = key_some key bytes value s r.read;
      other = λ more follows. (
        r.read ++ more,
        key_before key bytes value s r.read more
            (alike_behind (r.read ++ more) (r.read ++ rest) (alike_front r.read more rest r.some) (subst (λ (xs : List ℕ). is_behind_word xs ≡ true) r.split s.ends)),
        r.other more follows,
      );
    }
