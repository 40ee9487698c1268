-- Between two vertices of a contour, if no dart leads from those between to a vertex outside, one of those between has no chord: the first of them,
-- or one between the two ends of a chord of the first.
use Rattle.std.proofs.Common.{◌≡◌, ◌≢◌, ◌⊎◌, ℕ, zero, suc, ◌*◌, ◌<◌, ◌≤◌, inl, inr, Bool, true, false, not, ◌&&◌, ◌==◌, List, [], ◌∷◌, ◌++◌, map, length, refl, sym, ap, ◌∙◌, subst, append_assoc, length-append, arith}
use Rattle.std.proofs.lemmas.Bool.{cases_Bool, cases_eq, both_ways, true≢false, eq-eqb, ne_eqb, eqb-true, and_parts, and_from, not-true, not_from_false}
use Rattle.std.proofs.lemmas.List.{map-append}
use Rattle.permutations.specs.Members.{is_member, is_distinct}
use Rattle.permutations.specs.Count.{some}
use Rattle.permutations.specs.Cyclic.{first_or}
use Rattle.permutations.proofs.Search.{some-witness, some-none}
use Rattle.permutations.proofs.Members.{member-head, member-tail, member-cases, member-append_comm, member-append_left, member-append_right, member-append_cases, distinct-append_comm, CutAt, cut_at}
use Rattle.permutations.proofs.Mapped.{member-map, map-member}
use Rattle.dart_maps.specs.Map.{twin}
use Rattle.canonical_orders.proofs.ChordLists.{Around, successive-first, around-successive, around-closing, around-turn, first-append, first-member, values-apart}
use Rattle.canonical_orders.proofs.Chords.{IsKeptMap, IsKept, FaceStep, step-tail, chords-apart}

-- the darts of the contour of a map, in a cyclic list: the step along the face leads from each to the one before it. `on` are its vertices
pub record IsRound (m : ℕ) (f : ℕ → ℕ) (keep : ℕ → Bool) (t : ℕ → ℕ) (on : ℕ → Bool) (l : List ℕ) : Type 0 where
  pub around : Around (FaceStep f) l
  pub darts : (e : ℕ) → is_member e l ≡ true → IsKept m keep e
  pub once : is_distinct (map t l) ≡ true
  pub all : (x : ℕ) → on x ≡ is_member x (map t l)

-- darts that leave the vertices of mid lead to these, to those of v and u, or to vertices that are not on the contour
abbrev pub StaysWithin : ℕ → (ℕ → ℕ) → (ℕ → Bool) → List ℕ → ℕ → ℕ → Type 0
StaysWithin m t on mid v u = (d : ℕ) → d < 2 * m → is_member (t d) (map t mid) ≡ true → on (t (twin d)) ≡ true
    → (is_member (t (twin d)) (map t mid) ≡ true) ⊎ ((t (twin d) ≡ t v) ⊎ (t (twin d) ≡ t u))

-- a dart x among those of mid, and the dart y after it on the contour: the darts of x's vertex that lead to the contour lead to the head of x
-- or to the tail of y
pub record HasNoChord (m : ℕ) (f : ℕ → ℕ) (keep : ℕ → Bool) (t : ℕ → ℕ) (on : ℕ → Bool) (mid : List ℕ) : Type 0 where
  pub x : ℕ
  pub y : ℕ
  pub member : is_member x mid ≡ true
  pub first : IsKept m keep x
  pub second : IsKept m keep y
  pub meets : t (twin y) ≡ t x
  pub left : on (t (twin x)) ≡ true
  pub right : on (t y) ≡ true
  pub apart : t (twin x) ≢ t y
  pub only : (d : ℕ) → d < 2 * m → t d ≡ t x → on (t (twin d)) ≡ true → (t (twin d) ≡ t (twin x)) ⊎ (t (twin d) ≡ t y)

-- the contour written from its second dart on
pub round-turn : (m : ℕ) (f : ℕ → ℕ) (keep : ℕ → Bool) (t : ℕ → ℕ) (on : ℕ → Bool) (a : ℕ) (l : List ℕ) → IsRound m f keep t on (a ∷ l) → IsRound m f keep t on (l ++ a ∷ [])
round-turn m f keep t on a l r = record {
  around = around-turn (FaceStep f) a l r.around;
  darts = λ e n. r.darts e (member-append_comm e (a ∷ []) l ∙ n);
  once = ap is_distinct (map-append t l (a ∷ [])) ∙ distinct-append_comm (t a ∷ []) (map t l) r.once;
  all = λ x. r.all x ∙ member-append_comm x (t a ∷ []) (map t l) ∙ sym (ap (is_member x) (map-append t l (a ∷ [])));
}

-- what a member of a part has, so has the member of the whole
chord-wider : (m : ℕ) (f : ℕ → ℕ) (keep : ℕ → Bool) (t : ℕ → ℕ) (on : ℕ → Bool) (part whole : List ℕ) → ((e : ℕ) → is_member e part ≡ true → is_member e whole ≡ true) → HasNoChord m f keep t on part → HasNoChord m f keep t on whole
chord-wider m f keep t on part whole s c = record {
  x = c.x;
  y = c.y;
  member = s c.x c.member;
  first = c.first;
  second = c.second;
  meets = c.meets;
  left = c.left;
  right = c.right;
  apart = c.apart;
  only = c.only;
}

-- a map whose darts between vertices of the contour are kept, without loops
module _ (m : ℕ) (f g : ℕ → ℕ) (keep : ℕ → Bool) (t : ℕ → ℕ) (k : IsKeptMap m f g keep t) (on : ℕ → Bool)
    (loopless : (d : ℕ) → d < 2 * m → t d ≢ t (twin d)) (both : (d : ℕ) → d < 2 * m → on (t d) ≡ true → on (t (twin d)) ≡ true → keep d ≡ true) where
  -- a dart from y's vertex to a vertex of the contour other than those of u and p
  abbrev is_chord : ℕ → ℕ → ℕ → ℕ → Bool
  is_chord y u p d = (t d == t y) && (on (t (twin d)) && (not (t (twin d) == t u) && not (t (twin d) == t p)))

  -- it is kept
  chord-kept : (l : List ℕ) → IsRound m f keep t on l → (y : ℕ) → is_member y l ≡ true → (d : ℕ) → d < 2 * m → t d ≡ t y → on (t (twin d)) ≡ true → IsKept m keep d
  chord-kept l r y n d i e o = (i, both d i (r.all (t d) ∙ ap (λ v. is_member v (map t l)) e ∙ member-map t l y n) o)

  -- the first vertex between, where it has no chord
  first-free : (y : ℕ) (rest : List ℕ) (v : ℕ) (out : List ℕ) (u : ℕ) → IsRound m f keep t on ((y ∷ rest) ++ v ∷ (out ++ u ∷ []))
      → some (2 * m) (is_chord y u (first_or v rest)) ≡ false → HasNoChord m f keep t on (y ∷ rest)
  first-free y rest v out u r none = record {
    x = y;
    y = first_or v rest;
    member = member-head y rest;
    first = first;
    second = second;
    meets = step-tail m f g keep t k y (first_or v rest) second (successive-first (FaceStep f) y rest v (out ++ u ∷ []) (around-successive (FaceStep f) whole r.around));
    left = ap on left_is ∙ r.all (t u) ∙ member-map t whole u u_member;
    right = r.all (t (first_or v rest)) ∙ member-map t whole (first_or v rest) p_member;
    apart = λ e. values-apart t ((y ∷ rest) ++ v ∷ []) (out ++ u ∷ []) (ap (λ (l : List ℕ). is_distinct (map t l)) cut ∙ r.once) (first_or v rest) u
        (member-tail (first_or v rest) y (rest ++ v ∷ []) (first-member rest v [])) (member-append_right u out (u ∷ []) (member-head u [])) (sym e ∙ left_is);
    only = λ d i e o. elim (cases_eq (t (twin d)) (t u)) [
      | inl q ↦ inl (q ∙ sym left_is)
      | inr q ↦ elim (cases_eq (t (twin d)) (t (first_or v rest))) [
        | inl p ↦ inr p
        | inr p ↦ absurd (both_ways (is_chord y u (first_or v rest) d) (some-none (2 * m) (is_chord y u (first_or v rest)) none d i)
            (and_from (t d == t y) (on (t (twin d)) && (not (t (twin d) == t u) && not (t (twin d) == t (first_or v rest)))) (eq-eqb (t d) (t y) e)
            (and_from (on (t (twin d))) (not (t (twin d) == t u) && not (t (twin d) == t (first_or v rest))) o
            (and_from (not (t (twin d) == t u)) (not (t (twin d) == t (first_or v rest))) (not_from_false (t (twin d) == t u) (ne_eqb (t (twin d)) (t u) q)) (not_from_false (t (twin d) == t (first_or v rest)) (ne_eqb (t (twin d)) (t (first_or v rest)) p))))))
      ]
    ];
  }
    where
      whole : List ℕ
      whole = (y ∷ rest) ++ v ∷ (out ++ u ∷ [])

      u_member : is_member u ((y ∷ rest) ++ v ∷ (out ++ u ∷ [])) ≡ true
      u_member = member-append_right u (y ∷ rest) (v ∷ (out ++ u ∷ [])) (member-append_right u (v ∷ out) (u ∷ []) (member-head u []))

      p_member : is_member (first_or v rest) ((y ∷ rest) ++ v ∷ (out ++ u ∷ [])) ≡ true
      p_member = member-tail (first_or v rest) y (rest ++ v ∷ (out ++ u ∷ [])) (first-member rest v (out ++ u ∷ []))

      first : IsKept m keep y
      first = r.darts y (member-head y (rest ++ v ∷ (out ++ u ∷ [])))

      second : IsKept m keep (first_or v rest)
      second = r.darts (first_or v rest) p_member

      cut : ((y ∷ rest) ++ v ∷ []) ++ (out ++ u ∷ []) ≡ (y ∷ rest) ++ v ∷ (out ++ u ∷ [])
      cut = append_assoc (y ∷ rest) (v ∷ []) (out ++ u ∷ [])

      closing : FaceStep f u y
      closing = around-closing (FaceStep f) ((y ∷ rest) ++ v ∷ out) u (subst (Around (FaceStep f)) (sym (append_assoc (y ∷ rest) (v ∷ out) (u ∷ []))) r.around)

      left_is : t (twin y) ≡ t u
      left_is = step-tail m f g keep t k u y first closing

  -- the contour written from the vertex after y's on, where z is on the part that follows
  round-from : (y : ℕ) (rest : List ℕ) (v : ℕ) (out : List ℕ) (u : ℕ) (front : List ℕ) (z : ℕ) (more : List ℕ) → rest ++ v ∷ [] ≡ front ++ z ∷ more
      → IsRound m f keep t on ((y ∷ rest) ++ v ∷ (out ++ u ∷ [])) → IsRound m f keep t on (front ++ z ∷ ((more ++ (out ++ u ∷ [])) ++ y ∷ []))
  round-from y rest v out u front z more e r = subst (IsRound m f keep t on)
      (ap (λ (l : List ℕ). l ++ y ∷ []) (sym (append_assoc rest (v ∷ []) (out ++ u ∷ [])) ∙ ap (λ (l : List ℕ). l ++ (out ++ u ∷ [])) e ∙ append_assoc front (z ∷ more) (out ++ u ∷ [])) ∙ append_assoc front (z ∷ (more ++ (out ++ u ∷ []))) (y ∷ []))
      (round-turn m f keep t on y (rest ++ v ∷ (out ++ u ∷ [])) r)

  -- with a chord from y to z, darts that leave the vertices between lead to these, to those of y and z, or to none of the contour
  chord-within : (p : ℕ) (mid : List ℕ) (z : ℕ) (out : List ℕ) (y : ℕ) → IsRound m f keep t on ((p ∷ mid) ++ z ∷ (out ++ y ∷ []))
      → (chord : ℕ) → IsKept m keep chord → t chord ≡ t y → t (twin chord) ≡ t z → StaysWithin m t on (p ∷ mid) z y
  chord-within p mid z out y r chord kept_chord at_y at_z d i n o = elim (member-append_cases (t (twin d)) (map t (p ∷ mid)) (map t (z ∷ (out ++ y ∷ []))) (ap (is_member (t (twin d))) (sym (map-append t (p ∷ mid) (z ∷ (out ++ y ∷ [])))) ∙ sym (r.all (t (twin d))) ∙ o)) [
    | inl a ↦ inl a
    | inr a ↦ elim (member-cases (t (twin d)) (t z) (map t (out ++ y ∷ [])) a) [
      | inl q ↦ inr (inl (sym q))
      | inr q ↦ elim (member-append_cases (t (twin d)) (map t out) (t y ∷ []) (ap (is_member (t (twin d))) (sym (map-append t out (y ∷ []))) ∙ q)) [
        | inl w ↦ absurd (across out r (map-member t out (t (twin d)) w))
        | inr w ↦ elim (member-cases (t (twin d)) (t y) [] w) [
          | inl j ↦ inr (inr (sym j))
          | inr j ↦ absurd (true≢false (sym j))
        ]
      ]
    ]
  ]
    where
      from : (c : ℕ) × (is_member c (p ∷ mid) ≡ true) × (t c ≡ t d)
      from = map-member t (p ∷ mid) (t d) n

      across : (out : List ℕ) → IsRound m f keep t on ((p ∷ mid) ++ z ∷ (out ++ y ∷ [])) → ((c : ℕ) × (is_member c out ≡ true) × (t c ≡ t (twin d))) → ⊥
      across [] r w = true≢false (sym w.1)
      across (q ∷ out) r w = chords-apart m f g keep t k p mid z q out y
          (around-successive (FaceStep f) ((p ∷ mid) ++ z ∷ ((q ∷ out) ++ y ∷ [])) r.around)
          (around-closing (FaceStep f) ((p ∷ mid) ++ z ∷ q ∷ out) y (subst (Around (FaceStep f)) (sym (append_assoc (p ∷ mid) (z ∷ q ∷ out) (y ∷ []))) r.around))
          r.darts r.once chord kept_chord at_y at_z d from.0 w.0
          (chord-kept ((p ∷ mid) ++ z ∷ ((q ∷ out) ++ y ∷ [])) r from.0 (member-append_left from.0 (p ∷ mid) (z ∷ ((q ∷ out) ++ y ∷ [])) from.1) d i (sym from.2) o)
          from.1 from.2 w.1 w.2

  -- a vertex without a chord between the ends of a chord of the first vertex
  inner-free : (y : ℕ) (rest : List ℕ) (v : ℕ) (out : List ℕ) (u : ℕ) → IsRound m f keep t on ((y ∷ rest) ++ v ∷ (out ++ u ∷ []))
      → ((mid : List ℕ) (z : ℕ) (beyond : List ℕ) (w : ℕ) → length mid ≤ length rest → 0 < length mid → IsRound m f keep t on (mid ++ z ∷ (beyond ++ w ∷ [])) → StaysWithin m t on mid z w → HasNoChord m f keep t on mid)
      → (chord : ℕ) → chord < 2 * m → t chord ≡ t y → on (t (twin chord)) ≡ true → t (twin chord) ≢ t (first_or v rest)
      → (front : List ℕ) (z : ℕ) (more : List ℕ) → rest ++ v ∷ [] ≡ front ++ z ∷ more → t z ≡ t (twin chord) → HasNoChord m f keep t on front
  inner-free y rest v out u r again chord i at_y o far [] z more e at_z = absurd (far (sym at_z ∙ ap t (sym (ap (first_or z) e) ∙ first-append rest v [] z)))
  inner-free y rest v out u r again chord i at_y o far (p ∷ mid) z more e at_z =
      let turned = round-from y rest v out u (p ∷ mid) z more e r in
      let kept_chord = chord-kept ((y ∷ rest) ++ v ∷ (out ++ u ∷ [])) r y (member-head y (rest ++ v ∷ (out ++ u ∷ []))) chord i at_y o in
      let size : length (rest ++ v ∷ []) ≡ length ((p ∷ mid) ++ z ∷ more) = ap length e in
      again (p ∷ mid) z (more ++ (out ++ u ∷ [])) y
      (omega (arith, size, length-append rest (v ∷ []), length-append (p ∷ mid) (z ∷ more))) (omega arith) turned
      (chord-within p mid z (more ++ (out ++ u ∷ [])) y turned chord kept_chord at_y (sym at_z))

  -- a vertex without a chord, where the first vertex has one
  chord-inside : (y : ℕ) (rest : List ℕ) (v : ℕ) (out : List ℕ) (u : ℕ) → IsRound m f keep t on ((y ∷ rest) ++ v ∷ (out ++ u ∷ [])) → StaysWithin m t on (y ∷ rest) v u
      → ((mid : List ℕ) (z : ℕ) (beyond : List ℕ) (w : ℕ) → length mid ≤ length rest → 0 < length mid → IsRound m f keep t on (mid ++ z ∷ (beyond ++ w ∷ [])) → StaysWithin m t on mid z w → HasNoChord m f keep t on mid)
      → (chord : ℕ) → chord < 2 * m → t chord ≡ t y → on (t (twin chord)) ≡ true → t (twin chord) ≢ t u → t (twin chord) ≢ t (first_or v rest) → HasNoChord m f keep t on (y ∷ rest)
  chord-inside y rest v out u r within again chord i at_y o other far = elim (within chord i (subst (λ (x : ℕ). is_member x (map t (y ∷ rest)) ≡ true) (sym at_y) (member-head (t y) (map t rest))) o) [
    | inl a ↦ elim (member-cases (t (twin chord)) (t y) (map t rest) a) [
      | inl q ↦ absurd (loopless chord i (at_y ∙ q))
      | inr q ↦ let w = map-member t rest (t (twin chord)) q in at_cut w.0 w.2 (cut_at w.0 rest w.1)
    ]
    | inr a ↦ elim a [
      | inl q ↦ chord-wider m f keep t on rest (y ∷ rest) (λ e n. member-tail e y rest n) (inner-free y rest v out u r again chord i at_y o far rest v [] refl (sym q))
      | inr q ↦ absurd (other q)
    ]
  ]
    where
      at_cut : (z : ℕ) → t z ≡ t (twin chord) → CutAt z rest → HasNoChord m f keep t on (y ∷ rest)
      at_cut z q c = chord-wider m f keep t on c.front (y ∷ rest)
          (λ e n. member-tail e y rest (subst (λ (l : List ℕ). is_member e l ≡ true) (sym c.is) (member-append_left e c.front (z ∷ c.back) n)))
          (inner-free y rest v out u r again chord i at_y o far c.front z (c.back ++ v ∷ []) (ap (λ (l : List ℕ). l ++ v ∷ []) c.is ∙ append_assoc c.front (z ∷ c.back) (v ∷ [])) q)

  -- what a chord is
  chord-parts : (y u p d : ℕ) → is_chord y u p d ≡ true → (t d ≡ t y) × (on (t (twin d)) ≡ true) × (t (twin d) ≢ t u) × (t (twin d) ≢ t p)
  chord-parts y u p d c =
      let a = and_parts (t d == t y) (on (t (twin d)) && (not (t (twin d) == t u) && not (t (twin d) == t p))) c in
      let b = and_parts (on (t (twin d))) (not (t (twin d) == t u) && not (t (twin d) == t p)) a.1 in
      let e = and_parts (not (t (twin d) == t u)) (not (t (twin d) == t p)) b.1 in (
        eqb-true (t d) (t y) a.0,
        b.0,
        λ q. both_ways (t (twin d) == t u) (not-true (t (twin d) == t u) e.0) (eq-eqb (t (twin d)) (t u) q),
        λ q. both_ways (t (twin d) == t p) (not-true (t (twin d) == t p) e.1) (eq-eqb (t (twin d)) (t p) q),
      )

  -- so there is one between v and u
  pub between-free : (fuel : ℕ) (mid : List ℕ) (v : ℕ) (out : List ℕ) (u : ℕ) → length mid < fuel → 0 < length mid → IsRound m f keep t on (mid ++ v ∷ (out ++ u ∷ [])) → StaysWithin m t on mid v u → HasNoChord m f keep t on mid
  between-free zero mid v out u l n r w = absurd (omega arith)
  between-free (suc fuel) [] v out u l n r w = absurd (omega arith)
  between-free (suc fuel) (y ∷ rest) v out u l n r w = elim (cases_Bool (some (2 * m) (is_chord y u (first_or v rest)))) [
    | inl s ↦ let c = some-witness (2 * m) (is_chord y u (first_or v rest)) s in
        let a = chord-parts y u (first_or v rest) c.0 c.2 in
        chord-inside y rest v out u r w (λ inner z beyond x i. between-free fuel inner z beyond x (omega arith)) c.0 c.1 a.0 a.1 a.2 a.3
    | inr s ↦ first-free y rest v out u r s
  ]
