-- What is left behind the longest gap is what stands behind any gap, where it begins with no whitespace and no `#`.
use Rattle.std.proofs.Common.{◌≡◌, ℕ, ◌<◌, Bool, true, false, cond, not, ◌&&◌, ◌||◌, eqb, List, [], ◌∷◌, ◌++◌, length, refl, sym, ap, subst, ◌∙◌, ◌⊎◌, inl, inr, arith}
use Rattle.std.proofs.lemmas.Bool.{false≢true, cases_Bool}
use Rattle.gml_text.specs.Bytes.{is_white, is_line_end}
use Rattle.gml_text.specs.Grammar.{is_gap, is_comment}
use Rattle.gml_text.specs.Reading.{after_gap, after_comment}

-- whether bytes begin with a token's byte: with neither whitespace nor `#`
abbrev pub begins : List ℕ → Bool
begins [] = false
begins (b ∷ bs) = not (is_white b || eqb b 35)

-- the choices of a gap and of what is left behind it go together
pick_gap : (white hash gap comment : Bool) (x y z here : List ℕ) → cond white gap (hash && comment) ≡ true → (gap ≡ true → x ≡ here) → (comment ≡ true → y ≡ here) → cond white x (cond hash y z) ≡ here
pick_gap true hash gap comment x y z here h if_gap if_comment = if_gap h
pick_gap false true gap comment x y z here h if_gap if_comment = if_comment h
pick_gap false false gap comment x y z here h if_gap if_comment = absurd (false≢true h)

pick_comment : (line gap comment : Bool) (x y here : List ℕ) → cond line gap comment ≡ true → (gap ≡ true → x ≡ here) → (comment ≡ true → y ≡ here) → cond line x y ≡ here
pick_comment true gap comment x y here h if_gap if_comment = if_gap h
pick_comment false gap comment x y here h if_gap if_comment = if_comment h

pick_begins : (white hash : Bool) (x y z : List ℕ) → not (white || hash) ≡ true → cond white x (cond hash y z) ≡ z
pick_begins true hash x y z h = absurd (false≢true h)
pick_begins false true x y z h = absurd (false≢true h)
pick_begins false false x y z h = refl

pick_begin : (white hash : Bool) (x y z : List ℕ) → ((x ≡ []) ⊎ (begins x ≡ true)) → ((y ≡ []) ⊎ (begins y ≡ true)) → (white ≡ false → hash ≡ false → begins z ≡ true) → (cond white x (cond hash y z) ≡ []) ⊎ (begins (cond white x (cond hash y z)) ≡ true)
pick_begin true hash x y z of_x of_y of_z = of_x
pick_begin false true x y z of_x of_y of_z = of_y
pick_begin false false x y z of_x of_y of_z = inr (of_z refl refl)

pick_either : (line : Bool) (x y : List ℕ) → ((x ≡ []) ⊎ (begins x ≡ true)) → ((y ≡ []) ⊎ (begins y ≡ true)) → (cond line x y ≡ []) ⊎ (begins (cond line x y) ≡ true)
pick_either true x y of_x of_y = of_x
pick_either false x y of_x of_y = of_y

pick_all : (white hash gap comment : Bool) (x y : List ℕ) (b : ℕ) (bs : List ℕ) → (x ≡ [] → gap ≡ true) → (y ≡ [] → comment ≡ true) → cond white x (cond hash y (b ∷ bs)) ≡ [] → cond white gap (hash && comment) ≡ true
pick_all true hash gap comment x y b bs of_x of_y h = of_x h
pick_all false true gap comment x y b bs of_x of_y h = of_y h
pick_all false false gap comment x y b bs of_x of_y h = cc

pick_line : (line gap comment : Bool) (x y : List ℕ) → (x ≡ [] → gap ≡ true) → (y ≡ [] → comment ≡ true) → cond line x y ≡ [] → cond line gap comment ≡ true
pick_line true gap comment x y of_x of_y h = of_x h
pick_line false gap comment x y of_x of_y h = of_y h

-- no gap stands before a token's byte
pub after_gap-begins : (here : List ℕ) → begins here ≡ true → after_gap here ≡ here
after_gap-begins [] h = absurd (false≢true h)
after_gap-begins (b ∷ bs) h = pick_begins (is_white b) (eqb b 35) (after_gap bs) (after_comment bs) (b ∷ bs) h

both_after : (gap here : List ℕ) → begins here ≡ true → (is_gap false gap ≡ true → after_gap (gap ++ here) ≡ here) × (is_comment false gap ≡ true → after_comment (gap ++ here) ≡ here)
both_after [] here h = (λ _. after_gap-begins here h, λ e. absurd (false≢true e))
both_after (b ∷ gap) here h =
    let rest = both_after gap here h in (
      λ e. pick_gap (is_white b) (eqb b 35) (is_gap false gap) (is_comment false gap) (after_gap (gap ++ here)) (after_comment (gap ++ here)) (b ∷ (gap ++ here)) here e rest.0 rest.1,
      λ e. pick_comment (is_line_end b) (is_gap false gap) (is_comment false gap) (after_gap (gap ++ here)) (after_comment (gap ++ here)) here e rest.0 rest.1,
    )

-- what stands behind a gap is what is left behind the longest
pub after_gap-gap : (gap here : List ℕ) → is_gap false gap ≡ true → begins here ≡ true → after_gap (gap ++ here) ≡ here
after_gap-gap gap here is h = (both_after gap here h).0 is

-- bytes are a gap, or a comment, and then what is left behind
abbrev GapBefore : List ℕ → List ℕ → Type 0
GapBefore bytes here = (gap : List ℕ) × (bytes ≡ gap ++ here) × (is_gap false gap ≡ true)

abbrev CommentBefore : List ℕ → List ℕ → Type 0
CommentBefore bytes here = (gap : List ℕ) × (bytes ≡ gap ++ here) × (is_comment false gap ≡ true)

gap_more : (b : ℕ) (bs here : List ℕ) → is_white b ≡ true → GapBefore bs here → GapBefore (b ∷ bs) here
gap_more b bs here w g = (b ∷ g.0, ap (λ xs. b ∷ xs) g.1, ap (λ t. cond t (is_gap false g.0) (eqb b 35 && is_comment false g.0)) w ∙ g.2)

hash_more : (b : ℕ) (bs here : List ℕ) → is_white b ≡ false → eqb b 35 ≡ true → CommentBefore bs here → GapBefore (b ∷ bs) here
hash_more b bs here w e g =
    (b ∷ g.0, ap (λ xs. b ∷ xs) g.1, ap (λ t. cond t (is_gap false g.0) (eqb b 35 && is_comment false g.0)) w ∙ ap (λ t. t && is_comment false g.0) e ∙ g.2)

line_more : (b : ℕ) (bs here : List ℕ) → is_line_end b ≡ true → GapBefore bs here → CommentBefore (b ∷ bs) here
line_more b bs here w g = (b ∷ g.0, ap (λ xs. b ∷ xs) g.1, ap (λ t. cond t (is_gap false g.0) (is_comment false g.0)) w ∙ g.2)

comment_more : (b : ℕ) (bs here : List ℕ) → is_line_end b ≡ false → CommentBefore bs here → CommentBefore (b ∷ bs) here
comment_more b bs here w g = (b ∷ g.0, ap (λ xs. b ∷ xs) g.1, ap (λ t. cond t (is_gap false g.0) (is_comment false g.0)) w ∙ g.2)

-- the same of bytes with one more in front
abbrev Before : List ℕ → Type 0
Before bytes = (0 < length (after_gap bytes) → GapBefore bytes (after_gap bytes)) × (0 < length (after_comment bytes) → CommentBefore bytes (after_comment bytes))

gap_case : (b : ℕ) (bs : List ℕ) → Before bs → 0 < length (after_gap (b ∷ bs)) → GapBefore (b ∷ bs) (after_gap (b ∷ bs))
gap_case b bs before h = elim (cases_Bool (is_white b)) [
  | inl w ↦
      let e : after_gap (b ∷ bs) ≡ after_gap bs = ap (λ t. cond t (after_gap bs) (cond (eqb b 35) (after_comment bs) (b ∷ bs))) w in
      subst (λ (xs : List ℕ). GapBefore (b ∷ bs) xs) (sym e) (gap_more b bs (after_gap bs) w (before.0 (subst (λ (xs : List ℕ). 0 < length xs) e h)))
  | inr w ↦ elim (cases_Bool (eqb b 35)) [
    | inl s ↦
        let e : after_gap (b ∷ bs) ≡ after_comment bs = ap (λ t. cond t (after_gap bs) (cond (eqb b 35) (after_comment bs) (b ∷ bs))) w ∙ ap (λ t. cond t (after_comment bs) (b ∷ bs)) s in
        subst (λ (xs : List ℕ). GapBefore (b ∷ bs) xs) (sym e) (hash_more b bs (after_comment bs) w s (before.1 (subst (λ (xs : List ℕ). 0 < length xs) e h)))
    | inr s ↦
        let e : after_gap (b ∷ bs) ≡ b ∷ bs = ap (λ t. cond t (after_gap bs) (cond (eqb b 35) (after_comment bs) (b ∷ bs))) w ∙ ap (λ t. cond t (after_comment bs) (b ∷ bs)) s in
        subst (λ (xs : List ℕ). GapBefore (b ∷ bs) xs) (sym e) ([], refl, refl)
  ]
]

comment_case : (b : ℕ) (bs : List ℕ) → Before bs → 0 < length (after_comment (b ∷ bs)) → CommentBefore (b ∷ bs) (after_comment (b ∷ bs))
comment_case b bs before h = elim (cases_Bool (is_line_end b)) [
  | inl w ↦
      let e : after_comment (b ∷ bs) ≡ after_gap bs = ap (λ t. cond t (after_gap bs) (after_comment bs)) w in
      subst (λ (xs : List ℕ). CommentBefore (b ∷ bs) xs) (sym e) (line_more b bs (after_gap bs) w (before.0 (subst (λ (xs : List ℕ). 0 < length xs) e h)))
  | inr w ↦
      let e : after_comment (b ∷ bs) ≡ after_comment bs = ap (λ t. cond t (after_gap bs) (after_comment bs)) w in
      subst (λ (xs : List ℕ). CommentBefore (b ∷ bs) xs) (sym e) (comment_more b bs (after_comment bs) w (before.1 (subst (λ (xs : List ℕ). 0 < length xs) e h)))
]

both_before : (bytes : List ℕ) → Before bytes
both_before [] = (λ h. absurd (omega arith), λ h. absurd (omega arith))
both_before (b ∷ bs) = let before = both_before bs in (gap_case b bs before, comment_case b bs before)

-- where something is left behind the longest gap, it stands behind a gap
pub gap_before : (bytes : List ℕ) → 0 < length (after_gap bytes) → GapBefore bytes (after_gap bytes)
gap_before bytes h = (both_before bytes).0 h

-- what is left behind the longest gap begins as a token does
both_begin : (bytes : List ℕ) → ((after_gap bytes ≡ []) ⊎ (begins (after_gap bytes) ≡ true)) × ((after_comment bytes ≡ []) ⊎ (begins (after_comment bytes) ≡ true))
both_begin [] = (inl refl, inl refl)
both_begin (b ∷ bs) =
    let rest = both_begin bs in (
      pick_begin (is_white b) (eqb b 35) (after_gap bs) (after_comment bs) (b ∷ bs) rest.0 rest.1 (λ w s. ap (λ t. not (t || eqb b 35)) w ∙ ap not s),
      pick_either (is_line_end b) (after_gap bs) (after_comment bs) rest.0 rest.1,
    )

pub after_gap_begins : (bytes : List ℕ) → (after_gap bytes ≡ []) ⊎ (begins (after_gap bytes) ≡ true)
after_gap_begins bytes = (both_begin bytes).0

-- a gap at the end is all that is left
both_last : (bytes : List ℕ) → (is_gap true bytes ≡ true → after_gap bytes ≡ []) × (is_comment true bytes ≡ true → after_comment bytes ≡ [])
both_last [] = (λ _. refl, λ _. refl)
both_last (b ∷ bs) =
    let rest = both_last bs in (
      λ e. pick_gap (is_white b) (eqb b 35) (is_gap true bs) (is_comment true bs) (after_gap bs) (after_comment bs) (b ∷ bs) [] e rest.0 rest.1,
      λ e. pick_comment (is_line_end b) (is_gap true bs) (is_comment true bs) (after_gap bs) (after_comment bs) [] e rest.0 rest.1,
    )

pub after_gap-last : (bytes : List ℕ) → is_gap true bytes ≡ true → after_gap bytes ≡ []
after_gap-last bytes h = (both_last bytes).0 h

both_all : (bytes : List ℕ) → (after_gap bytes ≡ [] → is_gap true bytes ≡ true) × (after_comment bytes ≡ [] → is_comment true bytes ≡ true)
both_all [] = (λ _. refl, λ _. refl)
both_all (b ∷ bs) =
    let rest = both_all bs in (
      pick_all (is_white b) (eqb b 35) (is_gap true bs) (is_comment true bs) (after_gap bs) (after_comment bs) b bs rest.0 rest.1,
      pick_line (is_line_end b) (is_gap true bs) (is_comment true bs) (after_gap bs) (after_comment bs) rest.0 rest.1,
    )

-- where nothing is left, the bytes are a gap at the end
pub last-after_gap : (bytes : List ℕ) → after_gap bytes ≡ [] → is_gap true bytes ≡ true
last-after_gap bytes h = (both_all bytes).0 h
