-- Each number is recognised.
use Rattle.std.proofs.Common.{◌≡◌, ℕ, ◌+◌, ◌<◌, Bool, true, false, cond, not, ◌&&◌, Option, Some, None, List, [], ◌∷◌, ◌++◌, length, refl, sym, ap, ◌∙◌, ◌⊎◌, inl, inr, arith, append_assoc, codes, nat_eq}
use Rattle.std.proofs.lemmas.Bool.{not-true}
use Rattle.std.proofs.lemmas.List.{append-nil}
use Rattle.std.specs.List.{list_all}
use Rattle.std.proofs.lemmas.Bool.{false≢true}
use Rattle.gml_text.specs.Bytes.{is_digit, is_sign, is_mark, is_either}
use Rattle.gml_text.specs.Number.{is_sign_text, is_name, IsDigits, IsInteger, IsPointed, IsExponent, IsReal, IsNumber}
use Rattle.gml_text.specs.Recognised.{on, begin, step, passes}
use Rattle.gml_text.specs.declared.number.Part.{Part}
use Rattle.gml_text.specs.declared.number.Part.TheVariants.{Nothing, Sign, Whole, Point, Fraction, Mark, MarkSign, Exponent, I, In, N, Na, Special}
use Rattle.gml_text.proofs.ByteClasses.{digit-sign, mark-digit, mark-point, either_i-sign, either_i-digit, either_i-point, either_n-sign, either_n-digit, either_n-point, either_n-either_i}
use Rattle.gml_text.proofs.Words.{both_true, stops}

-- the choice that a test makes
if_true : (t : Bool) (x y : Option Part) (bs : List ℕ) → t ≡ true → passes (cond t x y) bs ≡ passes x bs
if_true t x y bs e = ap (λ (s : Bool). passes (cond s x y) bs) e

if_false : (t : Bool) (x y : Option Part) (bs : List ℕ) → t ≡ false → passes (cond t x y) bs ≡ passes y bs
if_false t x y bs e = ap (λ (s : Bool). passes (cond s x y) bs) e

-- digits keep a part that digits keep
digits_kept : (part : Part) → ((b : ℕ) (bs : List ℕ) → is_digit b ≡ true → passes (step part b) bs ≡ passes (Some part) bs) → (ds r : List ℕ) → list_all is_digit ds ≡ true → passes (Some part) (ds ++ r) ≡ passes (Some part) r
digits_kept part keeps [] r h = refl
digits_kept part keeps (d ∷ ds) r h =
    let both = both_true (is_digit d) (list_all is_digit ds) h in
    keeps d (ds ++ r) both.0 ∙ digits_kept part keeps ds r both.1

whole_kept : (ds r : List ℕ) → list_all is_digit ds ≡ true → passes (Some Whole) (ds ++ r) ≡ passes (Some Whole) r
whole_kept = digits_kept Whole (λ b bs e. if_true (is_digit b) (Some Whole) (cond (nat_eq b 46) (Some Fraction) (on (is_mark b) Mark)) bs e)

fraction_kept : (ds r : List ℕ) → list_all is_digit ds ≡ true → passes (Some Fraction) (ds ++ r) ≡ passes (Some Fraction) r
fraction_kept = digits_kept Fraction (λ b bs e. if_true (is_digit b) (Some Fraction) (on (is_mark b) Mark) bs e)

exponent_kept : (ds r : List ℕ) → list_all is_digit ds ≡ true → passes (Some Exponent) (ds ++ r) ≡ passes (Some Exponent) r
exponent_kept = digits_kept Exponent (λ b bs e. if_true (is_digit b) (Some Exponent) None bs e)

-- a first digit begins the whole part
begin_digit : (b : ℕ) (bs : List ℕ) → is_digit b ≡ true → passes (begin b) bs ≡ passes (Some Whole) bs
begin_digit b bs e = if_true (is_digit b) (Some Whole) (cond (nat_eq b 46) (Some Point) (cond (is_either 73 b) (Some I) (on (is_either 78 b) N))) bs e

sign_digits : (ds r : List ℕ) → IsDigits ds → passes (Some Sign) (ds ++ r) ≡ passes (Some Whole) r
sign_digits [] r is = absurd (omega arith)
sign_digits (d ∷ ds) r is =
    let both = both_true (is_digit d) (list_all is_digit ds) is.digits in
    begin_digit d (ds ++ r) both.0 ∙ whole_kept ds r both.1

-- digits behind a point with none before it
point_digits : (ds r : List ℕ) → list_all is_digit ds ≡ true → 0 < length ds → passes (Some Point) (ds ++ r) ≡ passes (Some Fraction) r
point_digits [] r h some = absurd (omega arith)
point_digits (d ∷ ds) r h some =
    let both = both_true (is_digit d) (list_all is_digit ds) h in
    if_true (is_digit d) (Some Fraction) None (ds ++ r) both.0 ∙ fraction_kept ds r both.1

sign_pointed : (before after r : List ℕ) → list_all is_digit before ≡ true → list_all is_digit after ≡ true → 0 < length before + length after → passes (Some Sign) (before ++ (46 ∷ (after ++ r))) ≡ passes (Some Fraction) r
sign_pointed [] after r of_before of_after some = point_digits after r of_after (omega arith)
sign_pointed (b ∷ bs) after r of_before of_after some =
    let both = both_true (is_digit b) (list_all is_digit bs) of_before in
    begin_digit b (bs ++ (46 ∷ (after ++ r))) both.0 ∙ whole_kept bs (46 ∷ (after ++ r)) both.1 ∙ fraction_kept after r of_after

-- an exponent's number
mark_signed : (sign digits : List ℕ) → is_sign_text sign ≡ true → IsDigits digits → passes (Some Mark) (sign ++ digits) ≡ true
mark_signed [] [] of_sign is = absurd (omega arith)
mark_signed [] (d ∷ ds) of_sign is =
    let both = both_true (is_digit d) (list_all is_digit ds) is.digits in
    if_false (is_sign d) (Some MarkSign) (on (is_digit d) Exponent) ds (digit-sign d both.0)
    ∙ if_true (is_digit d) (Some Exponent) None ds both.0
    ∙ ap (passes (Some Exponent)) (sym (append-nil ds)) ∙ exponent_kept ds [] both.1
mark_signed (s ∷ []) [] of_sign is = absurd (omega arith)
mark_signed (s ∷ []) (d ∷ ds) of_sign is =
    let both = both_true (is_digit d) (list_all is_digit ds) is.digits in
    if_true (is_sign s) (Some MarkSign) (on (is_digit s) Exponent) (d ∷ ds) of_sign
    ∙ if_true (is_digit d) (Some Exponent) None ds both.0
    ∙ ap (passes (Some Exponent)) (sym (append-nil ds)) ∙ exponent_kept ds [] both.1
mark_signed (s ∷ t ∷ sign) digits of_sign is = absurd (false≢true of_sign)

mark_power : (power : List ℕ) → IsInteger power → passes (Some Mark) power ≡ true
mark_power power is = ap (passes (Some Mark)) is.whole ∙ mark_signed is.sign is.digits is.is_sign is.is_digits

whole_exponent : (x : List ℕ) → ((x ≡ []) ⊎ IsExponent x) → passes (Some Whole) x ≡ true
whole_exponent x (inl e) = ap (passes (Some Whole)) e
whole_exponent x (inr is) =
    ap (passes (Some Whole)) is.whole
    ∙ if_false (is_digit is.mark) (Some Whole) (cond (nat_eq is.mark 46) (Some Fraction) (on (is_mark is.mark) Mark)) is.power (mark-digit is.mark is.is_mark)
    ∙ if_false (nat_eq is.mark 46) (Some Fraction) (on (is_mark is.mark) Mark) is.power (mark-point is.mark is.is_mark)
    ∙ if_true (is_mark is.mark) (Some Mark) None is.power is.is_mark
    ∙ mark_power is.power is.is_power

fraction_exponent : (x : List ℕ) → ((x ≡ []) ⊎ IsExponent x) → passes (Some Fraction) x ≡ true
fraction_exponent x (inl e) = ap (passes (Some Fraction)) e
fraction_exponent x (inr is) =
    ap (passes (Some Fraction)) is.whole
    ∙ if_false (is_digit is.mark) (Some Fraction) (on (is_mark is.mark) Mark) is.power (mark-digit is.mark is.is_mark)
    ∙ if_true (is_mark is.mark) (Some Mark) None is.power is.is_mark
    ∙ mark_power is.power is.is_power

-- behind a sign, a mantissa and an exponent or none
sign_real : (m x : List ℕ) → (IsDigits m ⊎ IsPointed m) → ((x ≡ []) ⊎ IsExponent x) → passes (Some Sign) (m ++ x) ≡ true
sign_real m x (inl is) of_x = sign_digits m x is ∙ whole_exponent x of_x
sign_real m x (inr is) of_x =
    ap (λ (t : List ℕ). passes (Some Sign) (t ++ x)) is.whole
    ∙ ap (passes (Some Sign)) (append_assoc is.before (46 ∷ is.after) x)
    ∙ sign_pointed is.before is.after x is.before_digits is.after_digits is.some
    ∙ fraction_exponent x of_x

special_end : (name : List ℕ) → is_name [] name ≡ true → passes (Some Special) name ≡ true
special_end [] h = refl
special_end (b ∷ bs) h = absurd (false≢true h)

-- a name behind a sign
sign_inf : (name : List ℕ) → is_name (codes "INF") name ≡ true → passes (Some Sign) name ≡ true
sign_inf [] h = absurd (false≢true h)
sign_inf (a ∷ []) h = absurd (false≢true ((both_true (is_either 73 a) false h).1))
sign_inf (a ∷ b ∷ []) h = absurd (false≢true ((both_true (is_either 78 b) false (both_true (is_either 73 a) (is_either 78 b && false) h).1).1))
sign_inf (a ∷ b ∷ c ∷ name) h =
    let first = both_true (is_either 73 a) (is_either 78 b && (is_either 70 c && is_name [] name)) h in
    let second = both_true (is_either 78 b) (is_either 70 c && is_name [] name) first.1 in
    let third = both_true (is_either 70 c) (is_name [] name) second.1 in
    if_false (is_digit a) (Some Whole) (cond (nat_eq a 46) (Some Point) (cond (is_either 73 a) (Some I) (on (is_either 78 a) N))) (b ∷ c ∷ name) (either_i-digit a first.0)
    ∙ if_false (nat_eq a 46) (Some Point) (cond (is_either 73 a) (Some I) (on (is_either 78 a) N)) (b ∷ c ∷ name) (either_i-point a first.0)
    ∙ if_true (is_either 73 a) (Some I) (on (is_either 78 a) N) (b ∷ c ∷ name) first.0
    ∙ if_true (is_either 78 b) (Some In) None (c ∷ name) second.0
    ∙ if_true (is_either 70 c) (Some Special) None name third.0
    ∙ special_end name third.1

sign_nan : (name : List ℕ) → is_name (codes "NAN") name ≡ true → passes (Some Sign) name ≡ true
sign_nan [] h = absurd (false≢true h)
sign_nan (a ∷ []) h = absurd (false≢true ((both_true (is_either 78 a) false h).1))
sign_nan (a ∷ b ∷ []) h = absurd (false≢true ((both_true (is_either 65 b) false (both_true (is_either 78 a) (is_either 65 b && false) h).1).1))
sign_nan (a ∷ b ∷ c ∷ name) h =
    let first = both_true (is_either 78 a) (is_either 65 b && (is_either 78 c && is_name [] name)) h in
    let second = both_true (is_either 65 b) (is_either 78 c && is_name [] name) first.1 in
    let third = both_true (is_either 78 c) (is_name [] name) second.1 in
    if_false (is_digit a) (Some Whole) (cond (nat_eq a 46) (Some Point) (cond (is_either 73 a) (Some I) (on (is_either 78 a) N))) (b ∷ c ∷ name) (either_n-digit a first.0)
    ∙ if_false (nat_eq a 46) (Some Point) (cond (is_either 73 a) (Some I) (on (is_either 78 a) N)) (b ∷ c ∷ name) (either_n-point a first.0)
    ∙ if_false (is_either 73 a) (Some I) (on (is_either 78 a) N) (b ∷ c ∷ name) (either_n-either_i a first.0)
    ∙ if_true (is_either 78 a) (Some N) None (b ∷ c ∷ name) first.0
    ∙ if_true (is_either 65 b) (Some Na) None (c ∷ name) second.0
    ∙ if_true (is_either 78 c) (Some Special) None name third.0
    ∙ special_end name third.1

-- where no sign stands, a number begins as behind a sign
unsigned : (r : List ℕ) → stops is_sign r ≡ true → passes (Some Nothing) r ≡ passes (Some Sign) r
unsigned [] h = refl
unsigned (b ∷ bs) h = if_false (is_sign b) (Some Sign) (begin b) bs (not-true (is_sign b) h)

signed : (sign r : List ℕ) → is_sign_text sign ≡ true → stops is_sign r ≡ true → passes (Some Nothing) (sign ++ r) ≡ passes (Some Sign) r
signed [] r of_sign of_r = unsigned r of_r
signed (s ∷ []) r of_sign of_r = if_true (is_sign s) (Some Sign) (begin s) r of_sign
signed (s ∷ t ∷ sign) r of_sign of_r = absurd (false≢true of_sign)

-- no sign stands before digits, a point or a name
stops_digits : (ds r : List ℕ) → IsDigits ds → stops is_sign (ds ++ r) ≡ true
stops_digits [] r is = absurd (omega arith)
stops_digits (d ∷ ds) r is = ap not (digit-sign d (both_true (is_digit d) (list_all is_digit ds) is.digits).0)

stops_point : (before r : List ℕ) → list_all is_digit before ≡ true → stops is_sign (before ++ (46 ∷ r)) ≡ true
stops_point [] r h = refl
stops_point (d ∷ ds) r h = ap not (digit-sign d (both_true (is_digit d) (list_all is_digit ds) h).0)

stops_mantissa : (m x : List ℕ) → (IsDigits m ⊎ IsPointed m) → stops is_sign (m ++ x) ≡ true
stops_mantissa m x (inl is) = stops_digits m x is
stops_mantissa m x (inr is) =
    ap (λ (t : List ℕ). stops is_sign (t ++ x)) is.whole
    ∙ ap (stops is_sign) (append_assoc is.before (46 ∷ is.after) x)
    ∙ stops_point is.before (is.after ++ x) is.before_digits

stops_inf : (name : List ℕ) → is_name (codes "INF") name ≡ true → stops is_sign name ≡ true
stops_inf [] h = refl
stops_inf (a ∷ name) h = ap not (either_i-sign a (both_true (is_either 73 a) (is_name (codes "NF") name) h).0)

stops_nan : (name : List ℕ) → is_name (codes "NAN") name ≡ true → stops is_sign name ≡ true
stops_nan [] h = refl
stops_nan (a ∷ name) h = ap not (either_n-sign a (both_true (is_either 78 a) (is_name (codes "AN") name) h).0)

integer_passes : (t : List ℕ) → IsInteger t → passes (Some Nothing) t ≡ true
integer_passes t is =
    ap (passes (Some Nothing)) is.whole
    ∙ signed is.sign is.digits is.is_sign (ap (stops is_sign) (sym (append-nil is.digits)) ∙ stops_digits is.digits [] is.is_digits)
    ∙ ap (passes (Some Sign)) (sym (append-nil is.digits)) ∙ sign_digits is.digits [] is.is_digits

real_passes : (t : List ℕ) → IsReal t → passes (Some Nothing) t ≡ true
real_passes t is =
    ap (passes (Some Nothing)) is.whole
    ∙ signed is.sign (is.mantissa ++ is.exponent) is.is_sign (stops_mantissa is.mantissa is.exponent is.is_mantissa)
    ∙ sign_real is.mantissa is.exponent is.is_mantissa is.is_exponent

special_passes : (t sign name : List ℕ) → t ≡ sign ++ name → is_sign_text sign ≡ true → ((is_name (codes "INF") name ≡ true) ⊎ (is_name (codes "NAN") name ≡ true)) → passes (Some Nothing) t ≡ true
special_passes t sign name whole of_sign (inl is) = ap (passes (Some Nothing)) whole ∙ signed sign name of_sign (stops_inf name is) ∙ sign_inf name is
special_passes t sign name whole of_sign (inr is) = ap (passes (Some Nothing)) whole ∙ signed sign name of_sign (stops_nan name is) ∙ sign_nan name is

-- each number is recognised
pub number_passes : (t : List ℕ) → IsNumber t → passes (Some Nothing) t ≡ true
number_passes t (inl is) = integer_passes t is
number_passes t (inr (inl is)) = real_passes t is
number_passes t (inr (inr is)) = special_passes t is.sign is.name is.whole is.is_sign is.named
