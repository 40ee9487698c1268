-- What is recognised is a number: what completes each part, from the last parts to the first.
use Rattle.std.proofs.Common.{◌≡◌, ℕ, Bool, true, false, cond, ◌&&◌, Option, Some, List, [], ◌∷◌, ◌++◌, refl, sym, ap, subst, ◌∙◌, ◌⊎◌, inl, inr, arith, codes, nat_eq, append_assoc}
use Rattle.std.specs.List.{list_all}
use Rattle.std.proofs.lemmas.Bool.{false≢true}
use Rattle.gml_text.specs.Bytes.{is_digit, is_sign, is_mark, is_either}
use Rattle.gml_text.specs.Number.{is_sign_text, is_name, IsDigits, IsInteger, IsPointed, IsExponent, IsNumber}
use Rattle.gml_text.specs.Recognised.{on, begin, passes}
use Rattle.gml_text.specs.declared.number.Part.{Part}
use Rattle.gml_text.specs.declared.number.Part.TheVariants.{Nothing, Sign, Whole, Point, Fraction, Mark, MarkSign, Exponent, I, In, N, Na, Special}
use Rattle.std.proofs.lemmas.Bool.{eqb-true}
use Rattle.gml_text.proofs.Numbers.{passes-none}

-- which choice was made
chosen : (t : Bool) (x y : Option Part) (bs : List ℕ) → passes (cond t x y) bs ≡ true → ((t ≡ true) × (passes x bs ≡ true)) ⊎ ((t ≡ false) × (passes y bs ≡ true))
chosen true x y bs h = inl (refl, h)
chosen false x y bs h = inr (refl, h)

chosen_on : (t : Bool) (part : Part) (bs : List ℕ) → passes (on t part) bs ≡ true → (t ≡ true) × (passes (Some part) bs ≡ true)
chosen_on true part bs h = (refl, h)
chosen_on false part bs h = absurd (false≢true (sym (passes-none bs) ∙ h))

digit_more : (b : ℕ) (bs : List ℕ) → is_digit b ≡ true → list_all is_digit bs ≡ true → list_all is_digit (b ∷ bs) ≡ true
digit_more b bs e h = ap (λ t. t && list_all is_digit bs) e ∙ h

-- an exponent's digits
exponent_digits : (t : List ℕ) → passes (Some Exponent) t ≡ true → list_all is_digit t ≡ true
exponent_digits [] h = refl
exponent_digits (b ∷ bs) h =
    let digit = chosen_on (is_digit b) Exponent bs h in
    digit_more b bs digit.0 (exponent_digits bs digit.1)

mark_sign_digits : (t : List ℕ) → passes (Some MarkSign) t ≡ true → IsDigits t
mark_sign_digits [] h = absurd (false≢true h)
mark_sign_digits (b ∷ bs) h =
    let digit = chosen_on (is_digit b) Exponent bs h in
    record { digits = digit_more b bs digit.0 (exponent_digits bs digit.1); some = omega arith }

mark_integer : (t : List ℕ) → passes (Some Mark) t ≡ true → IsInteger t
mark_integer [] h = absurd (false≢true h)
mark_integer (b ∷ bs) h = elim (chosen (is_sign b) (Some MarkSign) (on (is_digit b) Exponent) bs h) [
  | inl s ↦ record { sign = b ∷ []; digits = bs; whole = refl; is_sign = s.0; is_digits = mark_sign_digits bs s.1 }
  | inr s ↦
      let digit = chosen_on (is_digit b) Exponent bs s.1 in
      record { sign = []; digits = b ∷ bs; whole = refl; is_sign = refl; is_digits = record { digits = digit_more b bs digit.0 (exponent_digits bs digit.1); some = omega arith } }
]

-- an exponent or none
abbrev IsTail : List ℕ → Type 0
IsTail x = (x ≡ []) ⊎ IsExponent x

tail_of_mark : (b : ℕ) (bs : List ℕ) → is_mark b ≡ true → passes (Some Mark) bs ≡ true → IsTail (b ∷ bs)
tail_of_mark b bs e h = inr (record { mark = b; power = bs; whole = refl; is_mark = e; is_power = mark_integer bs h })

-- digits, and then an exponent or none
record IsFraction (t : List ℕ) : Type 0 where
  pub after : List ℕ
  pub exponent : List ℕ
  pub whole : t ≡ after ++ exponent
  pub digits : list_all is_digit after ≡ true
  pub tail : IsTail exponent

fraction_more : (b : ℕ) (bs : List ℕ) → is_digit b ≡ true → IsFraction bs → IsFraction (b ∷ bs)
fraction_more b bs e f = record { after = b ∷ f.after; exponent = f.exponent; whole = ap (λ (xs : List ℕ). b ∷ xs) f.whole; digits = digit_more b f.after e f.digits; tail = f.tail }

fraction_of_tail : (t : List ℕ) → IsTail t → IsFraction t
fraction_of_tail t is = record { after = []; exponent = t; whole = refl; digits = refl; tail = is }

fraction_is : (t : List ℕ) → passes (Some Fraction) t ≡ true → IsFraction t
fraction_is [] h = fraction_of_tail [] (inl refl)
fraction_is (b ∷ bs) h = elim (chosen (is_digit b) (Some Fraction) (on (is_mark b) Mark) bs h) [
  | inl d ↦ fraction_more b bs d.0 (fraction_is bs d.1)
  | inr d ↦ let mark = chosen_on (is_mark b) Mark bs d.1 in fraction_of_tail (b ∷ bs) (tail_of_mark b bs mark.0 mark.1)
]

-- digits, then nothing more or a point and a fraction, then an exponent or none
record IsMore (t : List ℕ) : Type 0 where
  pub before : List ℕ
  pub rest : List ℕ
  pub whole : t ≡ before ++ rest
  pub digits : list_all is_digit before ≡ true
  pub goes_on : IsTail rest ⊎ ((fraction : List ℕ) × (rest ≡ 46 ∷ fraction) × IsFraction fraction)

more_digit : (b : ℕ) (bs : List ℕ) → is_digit b ≡ true → IsMore bs → IsMore (b ∷ bs)
more_digit b bs e m = record { before = b ∷ m.before; rest = m.rest; whole = ap (λ (xs : List ℕ). b ∷ xs) m.whole; digits = digit_more b m.before e m.digits; goes_on = m.goes_on }

is_point : (b : ℕ) → nat_eq b 46 ≡ true → b ≡ 46
is_point b e = eqb-true b 46 e

whole_is : (t : List ℕ) → passes (Some Whole) t ≡ true → IsMore t
whole_is [] h = record { before = []; rest = []; whole = refl; digits = refl; goes_on = inl (inl refl) }
whole_is (b ∷ bs) h = elim (chosen (is_digit b) (Some Whole) (cond (nat_eq b 46) (Some Fraction) (on (is_mark b) Mark)) bs h) [
  | inl d ↦ more_digit b bs d.0 (whole_is bs d.1)
  | inr d ↦ elim (chosen (nat_eq b 46) (Some Fraction) (on (is_mark b) Mark) bs d.1) [
    | inl p ↦ record { before = []; rest = b ∷ bs; whole = refl; digits = refl; goes_on = inr (bs, ap (λ x. x ∷ bs) (is_point b p.0), fraction_is bs p.1) }
    | inr p ↦
        let mark = chosen_on (is_mark b) Mark bs p.1 in
        record { before = []; rest = b ∷ bs; whole = refl; digits = refl; goes_on = inl (tail_of_mark b bs mark.0 mark.1) }
  ]
]

-- a name
ends_special : (t : List ℕ) → passes (Some Special) t ≡ true → is_name [] t ≡ true
ends_special [] h = refl
ends_special (b ∷ bs) h = absurd (false≢true (sym (passes-none bs) ∙ h))

named_more : (capital b : ℕ) (capitals bs : List ℕ) → is_either capital b ≡ true → is_name capitals bs ≡ true → is_name (capital ∷ capitals) (b ∷ bs) ≡ true
named_more capital b capitals bs e h = ap (λ t. t && is_name capitals bs) e ∙ h

in_name : (t : List ℕ) → passes (Some In) t ≡ true → is_name (codes "F") t ≡ true
in_name [] h = h
in_name (b ∷ bs) h = let c = chosen_on (is_either 70 b) Special bs h in named_more 70 b [] bs c.0 (ends_special bs c.1)

i_name : (t : List ℕ) → passes (Some I) t ≡ true → is_name (codes "NF") t ≡ true
i_name [] h = h
i_name (b ∷ bs) h = let c = chosen_on (is_either 78 b) In bs h in named_more 78 b (codes "F") bs c.0 (in_name bs c.1)

na_name : (t : List ℕ) → passes (Some Na) t ≡ true → is_name (codes "N") t ≡ true
na_name [] h = h
na_name (b ∷ bs) h = let c = chosen_on (is_either 78 b) Special bs h in named_more 78 b [] bs c.0 (ends_special bs c.1)

n_name : (t : List ℕ) → passes (Some N) t ≡ true → is_name (codes "AN") t ≡ true
n_name [] h = h
n_name (b ∷ bs) h = let c = chosen_on (is_either 65 b) Na bs h in named_more 65 b (codes "N") bs c.0 (na_name bs c.1)

-- what stands behind a sign
real_of : (sign m x : List ℕ) → is_sign_text sign ≡ true → (IsDigits m ⊎ IsPointed m) → IsTail x → IsNumber (sign ++ (m ++ x))
real_of sign m x of_sign is tail = inr (inl (record { sign = sign; mantissa = m; exponent = x; whole = refl; is_sign = of_sign; is_mantissa = is; is_exponent = tail }))

along : (sign t u : List ℕ) → t ≡ u → IsNumber (sign ++ u) → IsNumber (sign ++ t)
along sign t u e is = subst (λ (xs : List ℕ). IsNumber (sign ++ xs)) (sym e) is

digits_first : (sign : List ℕ) (b : ℕ) (bs : List ℕ) → is_sign_text sign ≡ true → is_digit b ≡ true → IsMore bs → IsNumber (sign ++ (b ∷ bs))
digits_first sign b bs of_sign digit m = along sign (b ∷ bs) ((b ∷ m.before) ++ m.rest) (ap (λ (xs : List ℕ). b ∷ xs) m.whole) (elim m.goes_on [
  | inl tail ↦ real_of sign (b ∷ m.before) m.rest of_sign (inl (record { digits = digit_more b m.before digit m.digits; some = omega arith })) tail
  | inr f ↦
      let pointed : IsPointed ((b ∷ m.before) ++ (46 ∷ f.2.after)) =
      record { before = b ∷ m.before; after = f.2.after; whole = refl; before_digits = digit_more b m.before digit m.digits; after_digits = f.2.digits; some = omega arith } in
      along sign ((b ∷ m.before) ++ m.rest) (((b ∷ m.before) ++ (46 ∷ f.2.after)) ++ f.2.exponent)
      (ap (λ (xs : List ℕ). (b ∷ m.before) ++ xs) (f.1 ∙ ap (λ (xs : List ℕ). 46 ∷ xs) f.2.whole) ∙ sym (append_assoc (b ∷ m.before) (46 ∷ f.2.after) f.2.exponent))
      (real_of sign ((b ∷ m.before) ++ (46 ∷ f.2.after)) f.2.exponent of_sign (inr pointed) f.2.tail)
])

point_first : (sign : List ℕ) (bs : List ℕ) → is_sign_text sign ≡ true → passes (Some Point) bs ≡ true → IsNumber (sign ++ (46 ∷ bs))
point_first sign [] of_sign h = absurd (false≢true h)
point_first sign (b ∷ bs) of_sign h =
    let digit = chosen_on (is_digit b) Fraction bs h in
    let f = fraction_is bs digit.1 in
    let pointed : IsPointed (46 ∷ (b ∷ f.after)) =
    record { before = []; after = b ∷ f.after; whole = refl; before_digits = refl; after_digits = digit_more b f.after digit.0 f.digits; some = omega arith } in
    along sign (46 ∷ b ∷ bs) ((46 ∷ (b ∷ f.after)) ++ f.exponent) (ap (λ (xs : List ℕ). 46 ∷ b ∷ xs) f.whole)
    (real_of sign (46 ∷ (b ∷ f.after)) f.exponent of_sign (inr pointed) f.tail)

special_of : (sign name : List ℕ) → is_sign_text sign ≡ true → ((is_name (codes "INF") name ≡ true) ⊎ (is_name (codes "NAN") name ≡ true)) → IsNumber (sign ++ name)
special_of sign name of_sign is = inr (inr (record { sign = sign; name = name; whole = refl; is_sign = of_sign; named = is }))

begin_is : (sign : List ℕ) (b : ℕ) (bs : List ℕ) → is_sign_text sign ≡ true → passes (begin b) bs ≡ true → IsNumber (sign ++ (b ∷ bs))
begin_is sign b bs of_sign h = elim (chosen (is_digit b) (Some Whole) (cond (nat_eq b 46) (Some Point) (cond (is_either 73 b) (Some I) (on (is_either 78 b) N))) bs h) [
  | inl d ↦ digits_first sign b bs of_sign d.0 (whole_is bs d.1)
  | inr d ↦ elim (chosen (nat_eq b 46) (Some Point) (cond (is_either 73 b) (Some I) (on (is_either 78 b) N)) bs d.1) [
    | inl p ↦ along sign (b ∷ bs) (46 ∷ bs) (ap (λ x. x ∷ bs) (is_point b p.0)) (point_first sign bs of_sign p.1)
    | inr p ↦ elim (chosen (is_either 73 b) (Some I) (on (is_either 78 b) N) bs p.1) [
      | inl i ↦ special_of sign (b ∷ bs) of_sign (inl (named_more 73 b (codes "NF") bs i.0 (i_name bs i.1)))
      | inr i ↦
          let n = chosen_on (is_either 78 b) N bs i.1 in
          special_of sign (b ∷ bs) of_sign (inr (named_more 78 b (codes "AN") bs n.0 (n_name bs n.1)))
    ]
  ]
]

sign_is : (s : ℕ) (bs : List ℕ) → is_sign s ≡ true → passes (Some Sign) bs ≡ true → IsNumber (s ∷ bs)
sign_is s [] of_sign h = absurd (false≢true h)
sign_is s (b ∷ bs) of_sign h = begin_is (s ∷ []) b bs of_sign h

-- what is recognised is a number
pub passes_number : (t : List ℕ) → passes (Some Nothing) t ≡ true → IsNumber t
passes_number [] h = absurd (false≢true h)
passes_number (b ∷ bs) h = elim (chosen (is_sign b) (Some Sign) (begin b) bs h) [
  | inl s ↦ sign_is b bs s.0 s.1
  | inr s ↦ begin_is [] b bs refl s.1
]
