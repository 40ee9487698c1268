-- One pass along a list: of each block whether its edges follow each other so far, and which edge is expected next.
use Rattle.std.proofs.Common.{◌≡◌, ◌≢◌, ℕ, ◌<◌, ◌≤◌, inl, inr, true, false, ◌==◌, List, [], ◌∷◌, ◌++◌, length, get_or, None, Some, Option, IsPermutation, refl, sym, ap, ◌∙◌, subst, arith}
use Rattle.std.proofs.lemmas.Bool.{cases_eq, both_ways, and_parts, and_from, and_left, and_right, and_cases, not-true, lt-ltb, ltb-true}
use Rattle.std.proofs.Math.ListN.{set}
use Rattle.std.proofs.lemmas.List.{get_or-set_same, get_or-set_other}
use Rattle.permutations.specs.Members.{is_member, place_of}
use Rattle.permutations.proofs.Places.{place-below, place-holds}
use Rattle.permutations.proofs.Arrangements.{permutation-member}
use Rattle.arrangements.specs.Arranged.{of_block}
use Rattle.arrangements.specs.Options.{follower}
use Rattle.arrangements.specs.Gaps.{follows_along}
use Rattle.arrangements.specs.Tables.{VertexTables, rank_in, IsTables, AreTablesOf}
use Rattle.arrangements.specs.Changed.{is_other, AreKept, IsLeastChangedRank}
use Rattle.arrangements.proofs.Along.{keeps-along}
use Rattle.arrangements.proofs.Built.{of_block-more, of_block-other}
use Rattle.arrangements.proofs.Noted.{member-at, rank-at, block-from_rank, rank-from_block}

-- the edge that is expected after the list
abbrev pub expected_after : (ℕ → ℕ) → List ℕ → Option ℕ
expected_after follow [] = None
expected_after follow (x ∷ []) = Some (follow x)
expected_after follow (x ∷ y ∷ l) = expected_after follow (y ∷ l)

-- after one more
pub expected-more : (follow : ℕ → ℕ) (l : List ℕ) (e : ℕ) → expected_after follow (l ++ e ∷ []) ≡ Some (follow e)
expected-more follow [] e = refl
expected-more follow (x ∷ []) e = refl
expected-more follow (x ∷ y ∷ l) e = expected-more follow (y ∷ l) e

-- one more follows, where it is no other than the one expected
pub along-more : (follow : ℕ → ℕ) (l : List ℕ) (e : ℕ) → follows_along follow l ≡ true → is_other (expected_after follow l) e ≡ false → follows_along follow (l ++ e ∷ []) ≡ true
along-more follow [] e h o = refl
along-more follow (x ∷ []) e h o = grind (arith, o)
along-more follow (x ∷ y ∷ l) e h o =
    let p = and_parts (follow x == y) (follows_along follow (y ∷ l)) h in
    and_from (follow x == y) (follows_along follow (y ∷ l ++ e ∷ [])) p.0 (along-more follow (y ∷ l) e p.1 o)

-- another one does not
pub along-breaks : (follow : ℕ → ℕ) (l : List ℕ) (e : ℕ) → is_other (expected_after follow l) e ≡ true → follows_along follow (l ++ e ∷ []) ≡ false
along-breaks follow [] e o = absurd (both_ways false refl o)
along-breaks follow (x ∷ []) e o = and_left (follow x == e) true (not-true (follow x == e) o)
along-breaks follow (x ∷ y ∷ l) e o = and_right (follow x == y) (follows_along follow (y ∷ l ++ e ∷ [])) (along-breaks follow (y ∷ l) e o)

-- what does not follow stays so
pub along-broken : (follow : ℕ → ℕ) (l : List ℕ) (e : ℕ) → follows_along follow l ≡ false → follows_along follow (l ++ e ∷ []) ≡ false
along-broken follow [] e h = absurd (both_ways true h refl)
along-broken follow (x ∷ []) e h = absurd (both_ways true h refl)
along-broken follow (x ∷ y ∷ l) e h = elim (and_cases (follow x == y) (follows_along follow (y ∷ l)) h) [
  | inl a ↦ and_left (follow x == y) (follows_along follow (y ∷ l ++ e ∷ [])) a
  | inr b ↦ and_right (follow x == y) (follows_along follow (y ∷ l ++ e ∷ [])) (along-broken follow (y ∷ l) e b)
]

-- what is known after a part of the list: by rank the edge that is expected, and the least rank of a block whose edges do not
-- follow each other
pub record IsPassed (t : VertexTables) (expected : List (Option ℕ)) (least : ℕ) (l : List ℕ) (block : ℕ → ℕ) (order : ℕ → List ℕ) : Type 0 where
  pub is_next : (p : ℕ) → p < length t.edges → get_or expected (get_or t.ranks p 0) None ≡ expected_after (follower block order) (of_block block (block (get_or t.edges p 0)) l)
  pub follow_below : (p : ℕ) → p < length t.edges → get_or t.ranks p 0 < least → follows_along (follower block order) (of_block block (block (get_or t.edges p 0)) l) ≡ true
  pub broken : least < length t.edges → (p : ℕ) × (p < length t.edges) × (get_or t.ranks p 0 ≡ least) × (follows_along (follower block order) (of_block block (block (get_or t.edges p 0)) l) ≡ false)

-- of nothing
pub passed-none : (t : VertexTables) (block : ℕ → ℕ) (order : ℕ → List ℕ) (expected : List (Option ℕ)) → ((p : ℕ) → p < length t.edges → get_or expected (get_or t.ranks p 0) None ≡ None) → IsPassed t expected (length t.edges) [] block order
passed-none t block order expected n = record { is_next = n; follow_below = λ p h l. refl; broken = λ h. absurd (omega arith) }

module _ (t : VertexTables) (block : ℕ → ℕ) (order : ℕ → List ℕ) (i : IsTables t) (a : AreTablesOf t block order) (expected : List (Option ℕ)) (room : length expected ≡ length t.edges) (least : ℕ) (l : List ℕ) (e : ℕ) (m : is_member e t.edges ≡ true) (w : IsPassed t expected least l block order) where
  abbrev here : ℕ
  here = place_of t.edges e

  abbrev rank : ℕ
  rank = get_or t.ranks (place_of t.edges e) 0

  below : here < length t.edges
  below = place-below t.edges e m

  is : get_or t.edges here 0 ≡ e
  is = place-holds t.edges e m

  -- in the block of e
  own : (p : ℕ) → p < length t.edges → get_or t.ranks p 0 ≡ rank → of_block block (block (get_or t.edges p 0)) (l ++ e ∷ []) ≡ of_block block (block (get_or t.edges p 0)) l ++ e ∷ []
  own p h s = of_block-more block (block (get_or t.edges p 0)) l e (sym (block-from_rank t block order p here i a h below s ∙ ap block is))

  -- in another one
  other : (p : ℕ) → p < length t.edges → get_or t.ranks p 0 ≢ rank → of_block block (block (get_or t.edges p 0)) (l ++ e ∷ []) ≡ of_block block (block (get_or t.edges p 0)) l
  other p h n = of_block-other block (block (get_or t.edges p 0)) l e (λ s. n (rank-from_block t block order p here i a h below (sym s ∙ ap block (sym is))))

  nexts : (p : ℕ) → p < length t.edges → get_or (set expected rank (Some (follower block order e))) (get_or t.ranks p 0) None ≡ expected_after (follower block order) (of_block block (block (get_or t.edges p 0)) (l ++ e ∷ []))
  nexts p h = elim (cases_eq (get_or t.ranks p 0) rank) [
    | inl s ↦
        let q : rank < length expected = omega (arith, i.rank_below here below, room) in
        ap (λ (r : ℕ). get_or (set expected rank (Some (follower block order e))) r None) s ∙ get_or-set_same expected rank (Some (follower block order e)) None q
        ∙ sym (ap (expected_after (follower block order)) (own p h s) ∙ expected-more (follower block order) (of_block block (block (get_or t.edges p 0)) l) e)
    | inr n ↦ get_or-set_other expected rank (get_or t.ranks p 0) (Some (follower block order e)) None n ∙ w.is_next p h ∙ ap (expected_after (follower block order)) (sym (other p h n))
  ]

  -- what was broken stays so
  breaks : (p : ℕ) → p < length t.edges → follows_along (follower block order) (of_block block (block (get_or t.edges p 0)) l) ≡ false → follows_along (follower block order) (of_block block (block (get_or t.edges p 0)) (l ++ e ∷ [])) ≡ false
  breaks p h b = elim (cases_eq (get_or t.ranks p 0) rank) [
    | inl s ↦ ap (follows_along (follower block order)) (own p h s) ∙ along-broken (follower block order) (of_block block (block (get_or t.edges p 0)) l) e b
    | inr n ↦ ap (follows_along (follower block order)) (other p h n) ∙ b
  ]

  -- the edge is no other, or its rank is not below the least so far
  pub passed-on : (get_or t.ranks (place_of t.edges e) 0 < least → is_other (get_or expected (get_or t.ranks (place_of t.edges e) 0) None) e ≡ false)
      → IsPassed t (set expected (get_or t.ranks (place_of t.edges e) 0) (Some (follower block order e))) least (l ++ e ∷ []) block order
  passed-on good = record {
    is_next = nexts;
    follow_below = λ p h f. elim (cases_eq (get_or t.ranks p 0) rank) [
      | inl s ↦
          let q : rank < least = omega (arith, s, f) in
          ap (follows_along (follower block order)) (own p h s)
          ∙ along-more (follower block order) (of_block block (block (get_or t.edges p 0)) l) e (w.follow_below p h f)
          (subst (λ (x : Option ℕ). is_other x e ≡ false) (ap (λ (r : ℕ). get_or expected r None) (sym s) ∙ w.is_next p h) (good q))
      | inr n ↦ ap (follows_along (follower block order)) (other p h n) ∙ w.follow_below p h f
    ];
    broken = λ h. let b = w.broken h in (b.0, b.1, b.2, breaks b.0 b.1 b.3);
  }

  -- it is another one
  pub passed-worse : get_or t.ranks (place_of t.edges e) 0 < least → is_other (get_or expected (get_or t.ranks (place_of t.edges e) 0) None) e ≡ true
      → IsPassed t (set expected (get_or t.ranks (place_of t.edges e) 0) (Some (follower block order e))) (get_or t.ranks (place_of t.edges e) 0) (l ++ e ∷ []) block order
  passed-worse less bad = record {
    is_next = nexts;
    follow_below = λ p h f. let n : get_or t.ranks p 0 ≢ rank = omega (arith, f) in ap (follows_along (follower block order)) (other p h n) ∙ w.follow_below p h (omega (arith, f, less));
    broken = λ h. (
      here,
      below,
      refl,
      ap (follows_along (follower block order)) (own here below refl)
          ∙ along-breaks (follower block order) (of_block block (block (get_or t.edges here 0)) l) e (subst (λ (x : Option ℕ). is_other x e ≡ true) (w.is_next here below) bad),
    );
  }

-- after the whole list: the blocks are kept
pub passed-kept : (t : VertexTables) (block : ℕ → ℕ) (order : ℕ → List ℕ) (expected : List (Option ℕ)) (least : ℕ) (l : List ℕ) → IsTables t → AreTablesOf t block order → IsPermutation t.edges l → IsPassed t expected least l block order
    → length t.edges ≤ least → AreKept block order l
passed-kept t block order expected least l i a s w h e m =
    let n : is_member e t.edges ≡ true = sym (permutation-member t.edges l e s) ∙ m in
    let b = place-below t.edges e n in
    let is = place-holds t.edges e n in
    keeps-along block order t.edges a.orders l s e n
    ∙ subst (λ (x : ℕ). follows_along (follower block order) (of_block block (block x) l) ≡ true) is (w.follow_below (place_of t.edges e) b (omega (arith, i.rank_below (place_of t.edges e) b, h)))

-- or there is a least one that is not
pub passed-changed : (t : VertexTables) (block : ℕ → ℕ) (order : ℕ → List ℕ) (expected : List (Option ℕ)) (least : ℕ) (l : List ℕ) → IsTables t → AreTablesOf t block order → IsPermutation t.edges l → IsPassed t expected least l block order
    → least < length t.edges → IsLeastChangedRank t block order l least
passed-changed t block order expected least l i a s w h =
    let b = w.broken h in
    let x : ℕ = get_or t.edges b.0 0 in
    let n : is_member x t.edges ≡ true = member-at t.edges b.0 b.1 in
    let r : rank_in t x ≡ least = rank-at t b.0 i b.1 ∙ b.2 in
    record {
      edge = x;
      within = n;
      of_rank = r;
      least = record {
        edge = x;
        met = permutation-member t.edges l x s ∙ n;
        of_edge = refl;
        changed = keeps-along block order t.edges a.orders l s x n ∙ b.3;
        least = λ e m f.
            let k : is_member e t.edges ≡ true = sym (permutation-member t.edges l e s) ∙ m in
            let q = place-below t.edges e k in
            let z = place-holds t.edges e k in
            let lower : rank_in t e < rank_in t x = ltb-true (rank_in t e) (rank_in t x) (a.ranks e x k n ∙ lt-ltb (block e) (block x) f) in
            keeps-along block order t.edges a.orders l s e k
            ∙ subst (λ (y : ℕ). follows_along (follower block order) (of_block block (block y) l) ≡ true) z (w.follow_below (place_of t.edges e) q (omega (arith, lower, r)));
      };
    }

-- under other names
pub passed-as : (t : VertexTables) (block : ℕ → ℕ) (order : ℕ → List ℕ) (expected : List (Option ℕ)) (r s f g least low : ℕ) (l k : List ℕ) → r ≡ s → f ≡ g → least ≡ low → l ≡ k
    → IsPassed t (set expected s (Some g)) low k block order → IsPassed t (set expected r (Some f)) least l block order
passed-as t block order expected r s f g least low l k a b c d w =
    subst (λ (x : ℕ). IsPassed t (set expected x (Some f)) least l block order) (sym a)
    (subst (λ (x : ℕ). IsPassed t (set expected s (Some x)) least l block order) (sym b)
    (subst (λ (x : ℕ). IsPassed t (set expected s (Some g)) x l block order) (sym c) (subst (λ (x : List ℕ). IsPassed t (set expected s (Some g)) low x block order) (sym d) w)))
