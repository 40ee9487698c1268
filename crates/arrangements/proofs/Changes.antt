-- How often the block changes along a list: where blocks b and c cross their edges alternate, and the other way around.
use Rattle.std.proofs.Common.{◌≡◌, ◌≢◌, ℕ, ◌+◌, ◌<◌, ◌≤◌, ◌⊎◌, ◌↔◌, inl, inr, Bool, true, false, ◌||◌, ◌==◌, nat_lt, List, [], ◌∷◌, ◌++◌, length, filter, refl, sym, ap, ap₂, ◌∙◌, subst, arith, append_assoc, append-nil}
use Rattle.std.proofs.lemmas.Bool.{cases_Bool, cases_eq, or_cases, or_left, or_right, eq-eqb, ne_eqb, eqb-true, lt-ltb, ltb-true, true≢false}
use Rattle.permutations.specs.Members.{is_member, is_distinct}
use Rattle.permutations.specs.Cyclic.{IsTurn, Follows, FollowsAround}
use Rattle.permutations.proofs.Members.{member-head, member-tail, member-cases, member-append_right, member-append_cases, distinct-append_right, distinct-tail}
use Rattle.permutations.proofs.Filter.{filter-yes, filter-no, filter-ext}
use Rattle.permutations.proofs.CyclicOrder.{follows-cons, follows-one, follows-around, around-turned}
use Rattle.arrangements.specs.Arranged.{changes_from, changes, cross}
use Rattle.arrangements.specs.Refused.{Alternate}

-- whether an edge is of block b or of block c
abbrev pub of_either : (ℕ → ℕ) → ℕ → ℕ → ℕ → Bool
of_either block b c e = (block e == b) || (block e == c)

-- it is of one of them
pub either-cases : (block : ℕ → ℕ) (b c e : ℕ) → of_either block b c e ≡ true → (block e ≡ b) ⊎ (block e ≡ c)
either-cases block b c e h = elim (or_cases (block e == b) (block e == c) h) [ inl t ↦ inl (eqb-true (block e) b t) | inr t ↦ inr (eqb-true (block e) c t) ]

-- an edge of b
pub either-left : (block : ℕ → ℕ) (b c e : ℕ) → block e ≡ b → of_either block b c e ≡ true
either-left block b c e h = or_left (block e == b) (block e == c) (eq-eqb (block e) b h)

-- an edge of c
pub either-right : (block : ℕ → ℕ) (b c e : ℕ) → block e ≡ c → of_either block b c e ≡ true
either-right block b c e h = or_right (block e == b) (block e == c) (eq-eqb (block e) c h)

-- an edge of the same block changes nothing
pub changes-same : (block : ℕ → ℕ) (k e : ℕ) (l : List ℕ) → block e ≡ k → changes_from block k (e ∷ l) ≡ changes_from block k l
changes-same block k e l h = rw (eq-eqb (block e) k h) refl

-- an edge of another block does
pub changes-other : (block : ℕ → ℕ) (k e : ℕ) (l : List ℕ) → block e ≢ k → changes_from block k (e ∷ l) ≡ changes_from block (block e) l + 1
changes-other block k e l h = rw (ne_eqb (block e) k h) refl

-- of either block, named the other way around
pub either-swap : (block : ℕ → ℕ) (b c e : ℕ) → of_either block b c e ≡ of_either block c b e
either-swap block b c e = grind (arith, cases_Bool (block e == b), cases_Bool (block e == c))

-- blocks cross either way around
pub cross-swap : (block : ℕ → ℕ) (b c : ℕ) (l : List ℕ) → cross block b c l ≡ cross block c b l
cross-swap block b c l = ap (λ (k : List ℕ). nat_lt 2 (changes block k)) (filter-ext (of_either block b c) (of_either block c b) l (λ e m. either-swap block b c e))

-- blocks b and c alternate along the list: edges x, y, z and w of b, c, b and c come in this order, and none of either between y
-- and z
pub record Interleaved (block : ℕ → ℕ) (b c : ℕ) (l : List ℕ) : Type 0 where
  pub front : List ℕ
  pub x : ℕ
  pub near : List ℕ
  pub y : ℕ
  pub middle : List ℕ
  pub z : ℕ
  pub back : List ℕ
  pub w : ℕ
  pub is : l ≡ front ++ x ∷ (near ++ y ∷ (middle ++ z ∷ back))
  pub of_x : block x ≡ b
  pub of_y : block y ≡ c
  pub of_z : block z ≡ b
  pub of_w : block w ≡ c
  pub later : is_member w back ≡ true
  pub free : (e : ℕ) → is_member e middle ≡ true → of_either block b c e ≡ false
  pub differ : b ≢ c

-- from x on, after a gap, the block changes first from y to z, with no edge between them that passes
record Change (block : ℕ → ℕ) (p : ℕ → Bool) (x : ℕ) (gap l : List ℕ) : Type 0 where
  pub front : List ℕ
  pub y : ℕ
  pub middle : List ℕ
  pub z : ℕ
  pub back : List ℕ
  pub is : x ∷ (gap ++ l) ≡ front ++ y ∷ (middle ++ z ∷ back)
  pub of_y : block y ≡ block x
  pub passes : p z ≡ true
  pub other : block z ≢ block x
  pub free : (e : ℕ) → is_member e middle ≡ true → p e ≡ false
  pub fewer : changes_from block (block x) (filter p l) ≡ changes_from block (block z) (filter p back) + 1

-- one more member of a gap
gap-more : (p : ℕ → Bool) (gap : List ℕ) (x : ℕ) → ((e : ℕ) → is_member e gap ≡ true → p e ≡ false) → p x ≡ false → (e : ℕ) → is_member e (gap ++ x ∷ []) ≡ true → p e ≡ false
gap-more p gap x f h e m = elim (member-append_cases e gap (x ∷ []) m) [
  | inl a ↦ f e a
  | inr b ↦ elim (member-cases e x [] b) [
    | inl q ↦ subst (λ (v : ℕ). p v ≡ false) q h
    | inr n ↦ absurd (true≢false (sym n))
  ]
]

-- where the block changes it changes a first time
change : (block : ℕ → ℕ) (p : ℕ → Bool) (x : ℕ) (gap l : List ℕ) → ((e : ℕ) → is_member e gap ≡ true → p e ≡ false) → 0 < changes_from block (block x) (filter p l) → Change block p x gap l
change block p x gap [] f h = absurd (omega arith)
change block p x gap (e ∷ l) f h = elim (cases_Bool (p e)) [
  | inr failed ↦
      let s : filter p (e ∷ l) ≡ filter p l = filter-no p e l failed in
      let r : Change block p x (gap ++ e ∷ []) l = change block p x (gap ++ e ∷ []) l (gap-more p gap e f failed) (subst (λ (k : List ℕ). 0 < changes_from block (block x) k) s h) in
      record {
        front = r.front;
        y = r.y;
        middle = r.middle;
        z = r.z;
        back = r.back;
        is = ap (λ (k : List ℕ). x ∷ k) (sym (append_assoc gap (e ∷ []) l)) ∙ r.is;
        of_y = r.of_y;
        passes = r.passes;
        other = r.other;
        free = r.free;
        fewer = ap (changes_from block (block x)) s ∙ r.fewer;
      }
  | inl passed ↦ elim (cases_eq (block e) (block x)) [
    | inl same ↦
        let s : changes_from block (block x) (filter p (e ∷ l)) ≡ changes_from block (block e) (filter p l) =
        ap (changes_from block (block x)) (filter-yes p e l passed) ∙ changes-same block (block x) e (filter p l) same ∙ ap (λ (k : ℕ). changes_from block k (filter p l)) (sym same) in
        let r : Change block p e [] l = change block p e [] l (λ v m. absurd (true≢false (sym m))) (subst (λ (n : ℕ). 0 < n) s h) in
        record {
          front = x ∷ (gap ++ r.front);
          y = r.y;
          middle = r.middle;
          z = r.z;
          back = r.back;
          is = ap (λ (k : List ℕ). x ∷ (gap ++ k)) r.is ∙ ap (λ (k : List ℕ). x ∷ k) (sym (append_assoc gap r.front (r.y ∷ (r.middle ++ r.z ∷ r.back))));
          of_y = r.of_y ∙ same;
          passes = r.passes;
          other = λ q. r.other (q ∙ sym same);
          free = r.free;
          fewer = s ∙ r.fewer;
        }
    | inr differs ↦ record {
      front = [];
      y = x;
      middle = gap;
      z = e;
      back = l;
      is = refl;
      of_y = refl;
      passes = passed;
      other = differs;
      free = f;
      fewer = ap (changes_from block (block x)) (filter-yes p e l passed) ∙ changes-other block (block x) e (filter p l) differs;
    }
  ]
]

-- the first edge that passes
record Begin (block : ℕ → ℕ) (p : ℕ → Bool) (l : List ℕ) : Type 0 where
  pub front : List ℕ
  pub x : ℕ
  pub back : List ℕ
  pub is : l ≡ front ++ x ∷ back
  pub passes : p x ≡ true
  pub from : changes block (filter p l) ≡ changes_from block (block x) (filter p back)

begin : (block : ℕ → ℕ) (p : ℕ → Bool) (l : List ℕ) → 0 < changes block (filter p l) → Begin block p l
begin block p [] h = absurd (omega arith)
begin block p (e ∷ l) h = elim (cases_Bool (p e)) [
  | inr failed ↦
      let s : filter p (e ∷ l) ≡ filter p l = filter-no p e l failed in
      let r : Begin block p l = begin block p l (subst (λ (k : List ℕ). 0 < changes block k) s h) in
      record { front = e ∷ r.front; x = r.x; back = r.back; is = ap (λ (k : List ℕ). e ∷ k) r.is; passes = r.passes; from = ap (changes block) s ∙ r.from }
  | inl passed ↦ record { front = []; x = e; back = l; is = refl; passes = passed; from = ap (changes block) (filter-yes p e l passed) }
]

-- where the block changes more than twice: edges of alternate blocks
record Thrice (block : ℕ → ℕ) (p : ℕ → Bool) (l : List ℕ) : Type 0 where
  pub front : List ℕ
  pub x : ℕ
  pub near : List ℕ
  pub y : ℕ
  pub middle : List ℕ
  pub z : ℕ
  pub back : List ℕ
  pub w : ℕ
  pub is : l ≡ front ++ x ∷ (near ++ y ∷ (middle ++ z ∷ back))
  pub first : ℕ
  pub second : ℕ
  pub of_x : block x ≡ block first
  pub of_y : block y ≡ block second
  pub passes_first : p first ≡ true
  pub passes_second : p second ≡ true
  pub passes_z : p z ≡ true
  pub passes_w : p w ≡ true
  pub x_y : block second ≢ block first
  pub y_z : block z ≢ block second
  pub z_w : block w ≢ block z
  pub later : is_member w back ≡ true
  pub free : (e : ℕ) → is_member e middle ≡ true → p e ≡ false

thrice : (block : ℕ → ℕ) (p : ℕ → Bool) (l : List ℕ) → 2 < changes block (filter p l) → Thrice block p l
thrice block p l h = record {
  front = s.front ++ a.front;
  x = a.y;
  near = a.middle ++ b.front;
  y = b.y;
  middle = b.middle;
  z = b.z;
  back = b.back;
  w = c.z;
  is = s.is
      ∙ ap (λ (k : List ℕ). s.front ++ k) (a.is ∙ ap (λ (k : List ℕ). a.front ++ a.y ∷ (a.middle ++ k)) b.is)
      ∙ sym (append_assoc s.front a.front (a.y ∷ (a.middle ++ (b.front ++ rest))))
      ∙ ap (λ (k : List ℕ). (s.front ++ a.front) ++ a.y ∷ k) (sym (append_assoc a.middle b.front rest));
  first = s.x;
  second = a.z;
  of_x = a.of_y;
  of_y = b.of_y;
  passes_first = s.passes;
  passes_second = a.passes;
  passes_z = b.passes;
  passes_w = c.passes;
  x_y = a.other;
  y_z = b.other;
  z_w = c.other;
  later = elim (member-cases c.z b.z b.back among) [ inl e ↦ absurd (c.other (ap block (sym e))) | inr m ↦ m ];
  free = b.free;
}
  where
    none : (e : ℕ) → is_member e [] ≡ true → p e ≡ false
    none e m = absurd (true≢false (sym m))

    s : Begin block p l
    s = begin block p l (omega arith)

    a : Change block p s.x [] s.back
    a = change block p s.x [] s.back none (omega (arith, s.from))

    b : Change block p a.z [] a.back
    b = change block p a.z [] a.back none (omega (arith, s.from, a.fewer))

    c : Change block p b.z [] b.back
    c = change block p b.z [] b.back none (omega (arith, s.from, a.fewer, b.fewer))

    rest : List ℕ
    rest = b.y ∷ (b.middle ++ b.z ∷ b.back)

    among : is_member c.z (b.z ∷ b.back) ≡ true
    among = subst (λ (k : List ℕ). is_member c.z k ≡ true) (sym c.is) (member-append_right c.z c.front (c.y ∷ (c.middle ++ c.z ∷ c.back)) (member-tail c.z c.y (c.middle ++ c.z ∷ c.back) (member-append_right c.z c.middle (c.z ∷ c.back) (member-head c.z c.back))))

-- where blocks cross they alternate along the list
pub cross-interleaved : (block : ℕ → ℕ) (b c : ℕ) (l : List ℕ) → cross block b c l ≡ true → Interleaved block b c l ⊎ Interleaved block c b l
cross-interleaved block b c l h = elim (either-cases block b c t.first t.passes_first) [
  | inl e ↦
      let y : block t.second ≡ c = is_c t.second t.passes_second (λ q. t.x_y (q ∙ sym e)) in
      let z : block t.z ≡ b = is_b t.z t.passes_z (λ q. t.y_z (q ∙ sym y)) in
      let w : block t.w ≡ c = is_c t.w t.passes_w (λ q. t.z_w (q ∙ sym z)) in
      inl (record { front = t.front; x = t.x; near = t.near; y = t.y; middle = t.middle; z = t.z; back = t.back; w = t.w; is = t.is; of_x = t.of_x ∙ e; of_y = t.of_y ∙ y; of_z = z; of_w = w; later = t.later; free = t.free; differ = λ q. t.x_y (y ∙ sym q ∙ sym e) })
  | inr e ↦
      let y : block t.second ≡ b = is_b t.second t.passes_second (λ q. t.x_y (q ∙ sym e)) in
      let z : block t.z ≡ c = is_c t.z t.passes_z (λ q. t.y_z (q ∙ sym y)) in
      let w : block t.w ≡ b = is_b t.w t.passes_w (λ q. t.z_w (q ∙ sym z)) in
      inr (record { front = t.front; x = t.x; near = t.near; y = t.y; middle = t.middle; z = t.z; back = t.back; w = t.w; is = t.is; of_x = t.of_x ∙ e; of_y = t.of_y ∙ y; of_z = z; of_w = w; later = t.later; free = λ v m. sym (either-swap block b c v) ∙ t.free v m; differ = λ q. t.x_y (y ∙ sym q ∙ sym e) })
]
  where
    t : Thrice block (of_either block b c) l
    t = thrice block (of_either block b c) l (ltb-true 2 (changes block (filter (of_either block b c) l)) h)

    is_c : (e : ℕ) → of_either block b c e ≡ true → block e ≢ b → block e ≡ c
    is_c e m n = elim (either-cases block b c e m) [ inl q ↦ absurd (n q) | inr q ↦ q ]

    is_b : (e : ℕ) → of_either block b c e ≡ true → block e ≢ c → block e ≡ b
    is_b e m n = elim (either-cases block b c e m) [ inl q ↦ q | inr q ↦ absurd (n q) ]

-- as many changes as from a later edge on
least-any : (block : ℕ → ℕ) (p : ℕ → Bool) (k : ℕ) (u : List ℕ) (y : ℕ) (v : List ℕ) → p y ≡ true → changes_from block (block y) (filter p v) ≤ changes_from block k (filter p (u ++ y ∷ v))
least-any block p k [] y v h = elim (cases_eq (block y) k) [
  | inl e ↦ omega (arith, ap (changes_from block k) (filter-yes p y v h), changes-same block k y (filter p v) e, ap (λ (z : ℕ). changes_from block z (filter p v)) e)
  | inr n ↦ omega (arith, ap (changes_from block k) (filter-yes p y v h), changes-other block k y (filter p v) n)
]
least-any block p k (e ∷ u) y v h = elim (cases_Bool (p e)) [
  | inr failed ↦ omega (arith, ap (changes_from block k) (filter-no p e (u ++ y ∷ v) failed), least-any block p k u y v h)
  | inl passed ↦ elim (cases_eq (block e) k) [
    | inl s ↦ omega (arith, ap (changes_from block k) (filter-yes p e (u ++ y ∷ v) passed), changes-same block k e (filter p (u ++ y ∷ v)) s, least-any block p k u y v h)
    | inr n ↦ omega (arith, ap (changes_from block k) (filter-yes p e (u ++ y ∷ v) passed), changes-other block k e (filter p (u ++ y ∷ v)) n, least-any block p (block e) u y v h)
  ]
]

-- and one more where that edge is of another block
least-other : (block : ℕ → ℕ) (p : ℕ → Bool) (k : ℕ) (u : List ℕ) (y : ℕ) (v : List ℕ) → p y ≡ true → block y ≢ k → changes_from block (block y) (filter p v) + 1 ≤ changes_from block k (filter p (u ++ y ∷ v))
least-other block p k [] y v h n = omega (arith, ap (changes_from block k) (filter-yes p y v h), changes-other block k y (filter p v) n)
least-other block p k (e ∷ u) y v h n = elim (cases_Bool (p e)) [
  | inr failed ↦ omega (arith, ap (changes_from block k) (filter-no p e (u ++ y ∷ v) failed), least-other block p k u y v h n)
  | inl passed ↦ elim (cases_eq (block e) k) [
    | inl s ↦ omega (arith, ap (changes_from block k) (filter-yes p e (u ++ y ∷ v) passed), changes-same block k e (filter p (u ++ y ∷ v)) s, least-other block p k u y v h n)
    | inr d ↦ omega (arith, ap (changes_from block k) (filter-yes p e (u ++ y ∷ v) passed), changes-other block k e (filter p (u ++ y ∷ v)) d, least-any block p (block e) u y v h)
  ]
]

-- all changes are as many as those from any edge on
least-first : (block : ℕ → ℕ) (p : ℕ → Bool) (u : List ℕ) (y : ℕ) (v : List ℕ) → p y ≡ true → changes_from block (block y) (filter p v) ≤ changes block (filter p (u ++ y ∷ v))
least-first block p [] y v h = omega (arith, ap (changes block) (filter-yes p y v h))
least-first block p (e ∷ u) y v h = elim (cases_Bool (p e)) [
  | inr failed ↦ omega (arith, ap (changes block) (filter-no p e (u ++ y ∷ v) failed), least-first block p u y v h)
  | inl passed ↦ omega (arith, ap (changes block) (filter-yes p e (u ++ y ∷ v) passed), least-any block p (block e) u y v h)
]

-- where edges of b, c, b and c come in this order, the blocks cross
pub four-cross : (block : ℕ → ℕ) (b c : ℕ) (front : List ℕ) (x : ℕ) (near : List ℕ) (y : ℕ) (middle : List ℕ) (z : ℕ) (far : List ℕ) (w : ℕ) (back : List ℕ)
    → block x ≡ b → block y ≡ c → block z ≡ b → block w ≡ c → b ≢ c → cross block b c (front ++ x ∷ (near ++ y ∷ (middle ++ z ∷ (far ++ w ∷ back)))) ≡ true
four-cross block b c front x near y middle z far w back ex ey ez ew n =
    lt-ltb 2 (changes block (filter p (front ++ x ∷ (near ++ y ∷ (middle ++ z ∷ (far ++ w ∷ back)))))) (omega (
      arith,
      least-first block p front x (near ++ y ∷ (middle ++ z ∷ (far ++ w ∷ back))) (either-left block b c x ex),
      least-other block p (block x) near y (middle ++ z ∷ (far ++ w ∷ back)) (either-right block b c y ey) (λ e. n (sym ex ∙ sym e ∙ ey)),
      least-other block p (block y) middle z (far ++ w ∷ back) (either-left block b c z ez) (λ e. n (sym ez ∙ e ∙ ey)),
      least-other block p (block z) far w back (either-right block b c w ew) (λ e. n (sym ez ∙ sym e ∙ ew)),
    ))
  where
    p : ℕ → Bool
    p = of_either block b c

-- alternating edges of a list are met in this order around
interleaved-around : (block : ℕ → ℕ) (b c : ℕ) (l : List ℕ) → is_distinct l ≡ true → (i : Interleaved block b c l) → FollowsAround l (i.x ∷ i.y ∷ i.z ∷ i.w ∷ [])
interleaved-around block b c l d i = follows-around l (i.x ∷ i.y ∷ i.z ∷ i.w ∷ []) (subst (λ (k : List ℕ). Follows k (i.x ∷ i.y ∷ i.z ∷ i.w ∷ [])) (sym i.is)
    (follows-cons i.front i.x (i.near ++ i.y ∷ (i.middle ++ i.z ∷ i.back)) (i.y ∷ i.z ∷ i.w ∷ []) d0
    (follows-cons i.near i.y (i.middle ++ i.z ∷ i.back) (i.z ∷ i.w ∷ []) d1
    (follows-cons i.middle i.z i.back (i.w ∷ []) d2
    (follows-one i.back i.w (distinct-tail i.z i.back (distinct-append_right i.middle (i.z ∷ i.back) d2)) i.later)))))
  where
    d0 : is_distinct (i.front ++ i.x ∷ (i.near ++ i.y ∷ (i.middle ++ i.z ∷ i.back))) ≡ true
    d0 = subst (λ (k : List ℕ). is_distinct k ≡ true) i.is d

    d1 : is_distinct (i.near ++ i.y ∷ (i.middle ++ i.z ∷ i.back)) ≡ true
    d1 = distinct-tail i.x (i.near ++ i.y ∷ (i.middle ++ i.z ∷ i.back)) (distinct-append_right i.front (i.x ∷ (i.near ++ i.y ∷ (i.middle ++ i.z ∷ i.back))) d0)

    d2 : is_distinct (i.middle ++ i.z ∷ i.back) ≡ true
    d2 = distinct-tail i.y (i.middle ++ i.z ∷ i.back) (distinct-append_right i.near (i.y ∷ (i.middle ++ i.z ∷ i.back)) d1)

-- where blocks cross they alternate around the vertex
pub cross-alternate : (block : ℕ → ℕ) (b c : ℕ) (l : List ℕ) → is_distinct l ≡ true → cross block b c l ≡ true → Alternate block b c l
cross-alternate block b c l d h = elim (cross-interleaved block b c l h) [
  | inl i ↦ record { first = i.x; second = i.y; third = i.z; fourth = i.w; around = interleaved-around block b c l d i; of_first = i.of_x; of_second = i.of_y; of_third = i.of_z; of_fourth = i.of_w }
  | inr i ↦ record {
    first = i.y;
    second = i.z;
    third = i.w;
    fourth = i.x;
    around = around-turned l (i.x ∷ i.y ∷ i.z ∷ i.w ∷ []) (i.y ∷ i.z ∷ i.w ∷ i.x ∷ []) (interleaved-around block c b l d i) (record { front = i.x ∷ []; back = i.y ∷ i.z ∷ i.w ∷ []; before = refl; after = refl });
    of_first = i.of_y;
    of_second = i.of_z;
    of_third = i.of_w;
    of_fourth = i.of_x;
  }
]

-- a list whose picked members begin with x
record Picked (q : ℕ → Bool) (l : List ℕ) (x : ℕ) (r : List ℕ) : Type 0 where
  pub front : List ℕ
  pub back : List ℕ
  pub is : l ≡ front ++ x ∷ back
  pub rest : filter q back ≡ r

picked : (q : ℕ → Bool) (l : List ℕ) (x : ℕ) (r : List ℕ) → filter q l ≡ x ∷ r → Picked q l x r
picked q [] x r h = absurd (omega (arith, ap length h))
picked q (e ∷ l) x r h = elim (cases_Bool (q e)) [
  | inl passed ↦
      let s : e ∷ filter q l ≡ x ∷ r = sym (filter-yes q e l passed) ∙ h in
      let a : e ≡ x = cc in
      let b : filter q l ≡ r = cc in
      record { front = []; back = l; is = ap (λ (z : ℕ). z ∷ l) a; rest = b }
  | inr failed ↦ let w : Picked q l x r = picked q l x r (sym (filter-no q e l failed) ∙ h) in record { front = e ∷ w.front; back = w.back; is = ap (λ (k : List ℕ). e ∷ k) w.is; rest = w.rest }
]

-- where four edges of b, c, b and c are picked in this order, the blocks cross
picked-cross : (block : ℕ → ℕ) (b c : ℕ) (q : ℕ → Bool) (l : List ℕ) (x y z w : ℕ) → filter q l ≡ x ∷ y ∷ z ∷ w ∷ []
    → block x ≡ b → block y ≡ c → block z ≡ b → block w ≡ c → b ≢ c → cross block b c l ≡ true
picked-cross block b c q l x y z w h ex ey ez ew n = subst (λ (k : List ℕ). cross block b c k ≡ true) (sym is) (four-cross block b c p0.front x p1.front y p2.front z p3.front w p3.back ex ey ez ew n)
  where
    p0 : Picked q l x (y ∷ z ∷ w ∷ [])
    p0 = picked q l x (y ∷ z ∷ w ∷ []) h

    p1 : Picked q p0.back y (z ∷ w ∷ [])
    p1 = picked q p0.back y (z ∷ w ∷ []) p0.rest

    p2 : Picked q p1.back z (w ∷ [])
    p2 = picked q p1.back z (w ∷ []) p1.rest

    p3 : Picked q p2.back w []
    p3 = picked q p2.back w [] p2.rest

    is : l ≡ p0.front ++ x ∷ (p1.front ++ y ∷ (p2.front ++ z ∷ (p3.front ++ w ∷ p3.back)))
    is = p0.is ∙ ap (λ (k : List ℕ). p0.front ++ x ∷ k) (p1.is ∙ ap (λ (k : List ℕ). p1.front ++ y ∷ k) (p2.is ∙ ap (λ (k : List ℕ). p2.front ++ z ∷ k) p3.is))

-- the four turns of a list of four
four-turns : (a b c d : ℕ) (g f : List ℕ) → a ∷ b ∷ c ∷ d ∷ [] ≡ g ++ f
    → (f ++ g ≡ a ∷ b ∷ c ∷ d ∷ []) ⊎ ((f ++ g ≡ b ∷ c ∷ d ∷ a ∷ []) ⊎ ((f ++ g ≡ c ∷ d ∷ a ∷ b ∷ []) ⊎ (f ++ g ≡ d ∷ a ∷ b ∷ c ∷ [])))
four-turns a b c d [] f h = inl (append-nil f ∙ sym h)
four-turns a b c d (x ∷ []) f h =
    let e : a ≡ x = cc in
    let r : b ∷ c ∷ d ∷ [] ≡ f = cc in
    inr (inl (ap (λ (k : List ℕ). k ++ x ∷ []) (sym r) ∙ ap (λ (z : ℕ). b ∷ c ∷ d ∷ z ∷ []) (sym e)))
four-turns a b c d (x ∷ y ∷ []) f h =
    let e : a ≡ x = cc in
    let g : b ≡ y = cc in
    let r : c ∷ d ∷ [] ≡ f = cc in
    inr (inr (inl (ap (λ (k : List ℕ). k ++ x ∷ y ∷ []) (sym r) ∙ ap₂ (λ (z v : ℕ). c ∷ d ∷ z ∷ v ∷ []) (sym e) (sym g))))
four-turns a b c d (x ∷ y ∷ z ∷ []) f h =
    let r : d ∷ [] ≡ f = cc in
    let s : x ∷ y ∷ z ∷ [] ≡ a ∷ b ∷ c ∷ [] = cc in
    inr (inr (inr (ap₂ (λ (k m : List ℕ). k ++ m) (sym r) s)))
four-turns a b c d (x ∷ y ∷ z ∷ w ∷ []) f h =
    let r : [] ≡ f = cc in
    let s : x ∷ y ∷ z ∷ w ∷ [] ≡ a ∷ b ∷ c ∷ d ∷ [] = cc in
    inl (ap₂ (λ (k m : List ℕ). k ++ m) (sym r) s)
four-turns a b c d (x ∷ y ∷ z ∷ w ∷ v ∷ g) f h = absurd (omega (arith, ap length h))

-- where blocks alternate around the vertex they cross
pub alternate-cross : (block : ℕ → ℕ) (b c : ℕ) (l : List ℕ) → b ≢ c → Alternate block b c l → cross block b c l ≡ true
alternate-cross block b c l n a = at (four-turns a.first a.second a.third a.fourth t.back t.front t.after)
  where
    q : ℕ → Bool
    q e = is_member e (a.first ∷ a.second ∷ a.third ∷ a.fourth ∷ [])

    t : IsTurn (filter q l) (a.first ∷ a.second ∷ a.third ∷ a.fourth ∷ [])
    t = a.around

    other : (x y z w : ℕ) → filter q l ≡ x ∷ y ∷ z ∷ w ∷ [] → block x ≡ c → block y ≡ b → block z ≡ c → block w ≡ b → cross block b c l ≡ true
    other x y z w h ex ey ez ew = cross-swap block b c l ∙ picked-cross block c b q l x y z w h ex ey ez ew (λ e. n (sym e))

    at : (t.front ++ t.back ≡ a.first ∷ a.second ∷ a.third ∷ a.fourth ∷ []) ⊎ ((t.front ++ t.back ≡ a.second ∷ a.third ∷ a.fourth ∷ a.first ∷ []) ⊎ ((t.front ++ t.back ≡ a.third ∷ a.fourth ∷ a.first ∷ a.second ∷ []) ⊎ (t.front ++ t.back ≡ a.fourth ∷ a.first ∷ a.second ∷ a.third ∷ []))) → cross block b c l ≡ true
    at (inl e) = picked-cross block b c q l a.first a.second a.third a.fourth (t.before ∙ e) a.of_first a.of_second a.of_third a.of_fourth n
    at (inr (inl e)) = other a.second a.third a.fourth a.first (t.before ∙ e) a.of_second a.of_third a.of_fourth a.of_first
    at (inr (inr (inl e))) = picked-cross block b c q l a.third a.fourth a.first a.second (t.before ∙ e) a.of_third a.of_fourth a.of_first a.of_second n
    at (inr (inr (inr e))) = other a.fourth a.first a.second a.third (t.before ∙ e) a.of_fourth a.of_first a.of_second a.of_third

-- the test is exact
pub cross-is_alternate : (block : ℕ → ℕ) (b c : ℕ) (l : List ℕ) → is_distinct l ≡ true → b ≢ c → (cross block b c l ≡ true) ↔ Alternate block b c l
cross-is_alternate block b c l d n = (λ h. cross-alternate block b c l d h, λ a. alternate-cross block b c l n a)

-- a block doesn't cross itself
pub cross-differ : (block : ℕ → ℕ) (b c : ℕ) (l : List ℕ) → cross block b c l ≡ true → b ≢ c
cross-differ block b c l h e = elim (cross-interleaved block b c l h) [ inl i ↦ i.differ e | inr i ↦ i.differ (sym e) ]

-- blocks that cross have edges in the list
pub cross-edges : (block : ℕ → ℕ) (b c : ℕ) (l : List ℕ) → cross block b c l ≡ true → (x : ℕ) × (y : ℕ) × (is_member x l ≡ true) × (is_member y l ≡ true) × (block x ≡ b) × (block y ≡ c)
cross-edges block b c l h = elim (cross-interleaved block b c l h) [
  | inl i ↦ let m = met block b c l i in (i.x, i.y, m.0, m.1, i.of_x, i.of_y)
  | inr i ↦ let m = met block c b l i in (i.y, i.x, m.1, m.0, i.of_y, i.of_x)
]
  where
    met : (block : ℕ → ℕ) (b c : ℕ) (l : List ℕ) → (i : Interleaved block b c l) → (is_member i.x l ≡ true) × (is_member i.y l ≡ true)
    met block b c l i = (
      subst (λ (k : List ℕ). is_member i.x k ≡ true) (sym i.is) (member-append_right i.x i.front (i.x ∷ (i.near ++ i.y ∷ (i.middle ++ i.z ∷ i.back))) (member-head i.x (i.near ++ i.y ∷ (i.middle ++ i.z ∷ i.back)))),
      subst (λ (k : List ℕ). is_member i.y k ≡ true) (sym i.is)
          (member-append_right i.y i.front (i.x ∷ (i.near ++ i.y ∷ (i.middle ++ i.z ∷ i.back)))
          (member-tail i.y i.x (i.near ++ i.y ∷ (i.middle ++ i.z ∷ i.back))
          (member-append_right i.y i.near (i.y ∷ (i.middle ++ i.z ∷ i.back)) (member-head i.y (i.middle ++ i.z ∷ i.back))))),
    )
