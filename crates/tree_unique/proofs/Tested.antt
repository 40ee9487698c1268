-- Good 2-separations decided: each side that there is, as a list of truth values, tested against all others.
use Rattle.std.proofs.Common.{◌≡◌, ℕ, zero, suc, ◌<◌, ◌≤◌, ◌==◌, ◌&&◌, inl, inr, Bool, true, false, not, nat_lt, List, [], ◌∷◌, ◌++◌, map, filter, slice_index_or, refl, sym, ap, ap₂, ◌∙◌, subst, arith, Contains}
use Rattle.std.proofs.lemmas.Bool.{not-false, cases_Bool, both_ways, and_from, and_parts, ltb-true, lt-ltb, eqb-true, eq-eqb, not-true, not_from_false}
use Rattle.std.proofs.lemmas.List.Elements.{Contains-append_left, Contains-append_right}
use Rattle.permutations.specs.Count.{count, some}
use Rattle.permutations.proofs.Count.{count-ext}
use Rattle.permutations.proofs.Search.{some-ext, some-none}
use Rattle.multigraph.specs.Graph.{Multigraph, edge_count, ends_of, is_end}
use Rattle.multigraph.proofs.OtherEnd.{is_end-cases}
use Rattle.pair_split.proofs.Elements.{contains-here, contains-cases, contains-none, contains-filter, filter-contains, contains-map}
use Rattle.graph_theory.specs.Separation.{other_side, IsSeparation, DoCross, IsGood, AreSameSide}
use Rattle.pair_split.proofs.GraphSides.{common-same}
use Rattle.graph_theory.proofs.Counting.{Two, two-of, two-count, two-most, third-of}
use Rattle.tree_unique.proofs.Sides.{is_shared, common-shared, shared-common}

-- all lists of n truth values
abbrev pub values : ℕ → List (List Bool)
values zero = [] ∷ []
values (suc n) = map (λ (l : List Bool). false ∷ l) (values n) ++ map (λ (l : List Bool). true ∷ l) (values n)

-- the first n values of a side
abbrev pub table : ℕ → (ℕ → Bool) → List Bool
table zero s = []
table (suc n) s = s 0 ∷ table n (λ e. s (suc e))

-- the side of a list of truth values
abbrev pub side_of : List Bool → ℕ → Bool
side_of l e = slice_index_or l e false

-- whether a side is one of a 2-separation
abbrev pub is_separation : Multigraph → (ℕ → Bool) → Bool
is_separation g s = (nat_lt 1 (count (edge_count g) s) && nat_lt 1 (count (edge_count g) (other_side s))) && (count g.vertex_count (is_shared g s) == 2)

-- whether two divisions cross
abbrev pub do_cross : Multigraph → (ℕ → Bool) → (ℕ → Bool) → Bool
do_cross g s t = (some (edge_count g) (λ e. s e && t e) && some (edge_count g) (λ e. s e && not (t e))) && (some (edge_count g) (λ e. not (s e) && t e) && some (edge_count g) (λ e. not (s e) && not (t e)))

-- all sides of 2-separations
abbrev pub separations : Multigraph → List (List Bool)
separations g = filter (λ l. is_separation g (side_of l)) (values (edge_count g))

-- whether a side crosses none of these
abbrev pub none_cross : Multigraph → (ℕ → Bool) → List (List Bool) → Bool
none_cross g s [] = true
none_cross g s (l ∷ rest) = not (do_cross g s (side_of l)) && none_cross g s rest

-- those that cross none of all
abbrev pub good_among : Multigraph → List (List Bool) → List (List Bool)
good_among g all = filter (λ l. none_cross g (side_of l) all) all

-- all sides of good 2-separations
abbrev pub good : Multigraph → List (List Bool)
good g = good_among g (separations g)

-- the values of a side are one of all lists
table-value : (n : ℕ) (s : ℕ → Bool) → Contains (values n) (table n s)
table-value zero s = contains-here [] []
table-value (suc n) s = pick (s 0) (table n (λ e. s (suc e))) (table-value n (λ e. s (suc e)))
  where
    pick : (b : Bool) (l : List Bool) → Contains (values n) l → Contains (values (suc n)) (b ∷ l)
    pick false l c = Contains-append_left (map (λ (l : List Bool). false ∷ l) (values n)) (map (λ (l : List Bool). true ∷ l) (values n)) (false ∷ l) (contains-map (λ (l : List Bool). false ∷ l) l (values n) c)
    pick true l c = Contains-append_right (map (λ (l : List Bool). false ∷ l) (values n)) (map (λ (l : List Bool). true ∷ l) (values n)) (true ∷ l) (contains-map (λ (l : List Bool). true ∷ l) l (values n) c)

-- and are the side's
pub table-side : (n : ℕ) (s : ℕ → Bool) (e : ℕ) → e < n → s e ≡ side_of (table n s) e
table-side zero s e l = absurd (omega (arith, l))
table-side (suc n) s zero l = refl
table-side (suc n) s (suc e) l = table-side n (λ e. s (suc e)) e (omega (arith, l))

-- all ends are vertices
abbrev pub are_in_range : Multigraph → Bool
are_in_range g = not (some (edge_count g) (λ e. not (nat_lt (ends_of g e).0 g.vertex_count && nat_lt (ends_of g e).1 g.vertex_count)))

range-end : (g : Multigraph) → are_in_range g ≡ true → (v e : ℕ) → e < edge_count g → is_end g v e ≡ true → v < g.vertex_count
range-end g r v e l h =
    let p = and_parts (nat_lt (ends_of g e).0 g.vertex_count) (nat_lt (ends_of g e).1 g.vertex_count) (not-false (nat_lt (ends_of g e).0 g.vertex_count && nat_lt (ends_of g e).1 g.vertex_count) (some-none (edge_count g) (λ e. not (nat_lt (ends_of g e).0 g.vertex_count && nat_lt (ends_of g e).1 g.vertex_count))
    (not-true (some (edge_count g) (λ e. not (nat_lt (ends_of g e).0 g.vertex_count && nat_lt (ends_of g e).1 g.vertex_count))) r) e l)) in
    elim (is_end-cases g v e h) [
      | inl a ↦ subst (λ z. z < g.vertex_count) a (ltb-true (ends_of g e).0 g.vertex_count p.0)
      | inr a ↦ subst (λ z. z < g.vertex_count) a (ltb-true (ends_of g e).1 g.vertex_count p.1)
    ]

-- only the values at edges matter
separation-same : (g : Multigraph) (s t : ℕ → Bool) → AreSameSide g s t → IsSeparation g s → IsSeparation g t
separation-same g s t h i = record {
  first = i.first;
  second = i.second;
  differ = i.differ;
  first_common = common-same g s t h i.first i.first_common;
  second_common = common-same g s t h i.second i.second_common;
  no_other = λ v c. i.no_other v (common-same g t s (λ e l. sym (h e l)) v c);
  two_inside = subst (λ z. 2 ≤ z) (count-ext (edge_count g) s t h) i.two_inside;
  two_outside = subst (λ z. 2 ≤ z) (count-ext (edge_count g) (other_side s) (other_side t) (λ e l. ap not (h e l))) i.two_outside;
}

cross-same : (g : Multigraph) (s t x y : ℕ → Bool) → AreSameSide g s t → AreSameSide g x y → DoCross g s x → DoCross g t y
cross-same g s t x y h k c = record {
  both = at (λ e. s e && x e) (λ e. t e && y e) c.both (λ e b. ap₂ (λ u v. u && v) (h e b) (k e b));
  first_alone = at (λ e. s e && not (x e)) (λ e. t e && not (y e)) c.first_alone (λ e b. ap₂ (λ u v. u && not v) (h e b) (k e b));
  second_alone = at (λ e. not (s e) && x e) (λ e. not (t e) && y e) c.second_alone (λ e b. ap₂ (λ u v. not u && v) (h e b) (k e b));
  neither = at (λ e. not (s e) && not (x e)) (λ e. not (t e) && not (y e)) c.neither (λ e b. ap₂ (λ u v. not u && not v) (h e b) (k e b));
}
  where
    at : (p q : ℕ → Bool) → some (edge_count g) p ≡ true → ((e : ℕ) → e < edge_count g → p e ≡ q e) → some (edge_count g) q ≡ true
    at p q a e = sym (some-ext (edge_count g) p q e) ∙ a

-- the tests tell
separation-tested : (g : Multigraph) → are_in_range g ≡ true → (s : ℕ → Bool) → IsSeparation g s → is_separation g s ≡ true
separation-tested g r s i = and_from (nat_lt 1 (count (edge_count g) s) && nat_lt 1 (count (edge_count g) (other_side s))) (count g.vertex_count (is_shared g s) == 2)
    (and_from (nat_lt 1 (count (edge_count g) s)) (nat_lt 1 (count (edge_count g) (other_side s))) (lt-ltb 1 (count (edge_count g) s) (omega (arith, i.two_inside))) (lt-ltb 1 (count (edge_count g) (other_side s)) (omega (arith, i.two_outside))))
    (eq-eqb (count g.vertex_count (is_shared g s)) 2 (omega (arith, most, least)))
  where
    most : count g.vertex_count (is_shared g s) ≤ 2
    most = two-most g.vertex_count (is_shared g s) i.first i.second (λ v l h. i.no_other v (shared-common g s v h))

    least : 2 ≤ count g.vertex_count (is_shared g s)
    least = two-count g.vertex_count (is_shared g s) (record {
      first = i.first;
      second = i.second;
      differ = i.differ;
      first_in = range-end g r i.first i.first_common.inside i.first_common.inside_edge i.first_common.inside_end;
      second_in = range-end g r i.second i.second_common.inside i.second_common.inside_edge i.second_common.inside_end;
      first_on = common-shared g s i.first i.first_common;
      second_on = common-shared g s i.second i.second_common;
    })

tested-separation : (g : Multigraph) → are_in_range g ≡ true → (s : ℕ → Bool) → is_separation g s ≡ true → IsSeparation g s
tested-separation g r s h =
    let p = and_parts (nat_lt 1 (count (edge_count g) s) && nat_lt 1 (count (edge_count g) (other_side s))) (count g.vertex_count (is_shared g s) == 2) h in
    let q = and_parts (nat_lt 1 (count (edge_count g) s)) (nat_lt 1 (count (edge_count g) (other_side s))) p.0 in
    let two : count g.vertex_count (is_shared g s) ≡ 2 = eqb-true (count g.vertex_count (is_shared g s)) 2 p.1 in
    let w : Two g.vertex_count (is_shared g s) = two-of g.vertex_count (is_shared g s) (omega (arith, two)) in
    record {
      first = w.first;
      second = w.second;
      differ = w.differ;
      first_common = shared-common g s w.first w.first_on;
      second_common = shared-common g s w.second w.second_on;
      no_other = λ v c. third-of g.vertex_count (is_shared g s) (omega (arith, two)) w v (range-end g r v c.inside c.inside_edge c.inside_end) (common-shared g s v c);
      two_inside = omega (arith, ltb-true 1 (count (edge_count g) s) q.0);
      two_outside = omega (arith, ltb-true 1 (count (edge_count g) (other_side s)) q.1);
    }

cross-tested : (g : Multigraph) (s t : ℕ → Bool) → DoCross g s t → do_cross g s t ≡ true
cross-tested g s t c = and_from (some (edge_count g) (λ e. s e && t e) && some (edge_count g) (λ e. s e && not (t e))) (some (edge_count g) (λ e. not (s e) && t e) && some (edge_count g) (λ e. not (s e) && not (t e)))
    (and_from (some (edge_count g) (λ e. s e && t e)) (some (edge_count g) (λ e. s e && not (t e))) c.both c.first_alone)
    (and_from (some (edge_count g) (λ e. not (s e) && t e)) (some (edge_count g) (λ e. not (s e) && not (t e))) c.second_alone c.neither)

tested-cross : (g : Multigraph) (s t : ℕ → Bool) → do_cross g s t ≡ true → DoCross g s t
tested-cross g s t h =
    let p = and_parts (some (edge_count g) (λ e. s e && t e) && some (edge_count g) (λ e. s e && not (t e))) (some (edge_count g) (λ e. not (s e) && t e) && some (edge_count g) (λ e. not (s e) && not (t e))) h in
    let q = and_parts (some (edge_count g) (λ e. s e && t e)) (some (edge_count g) (λ e. s e && not (t e))) p.0 in
    let r = and_parts (some (edge_count g) (λ e. not (s e) && t e)) (some (edge_count g) (λ e. not (s e) && not (t e))) p.1 in
    record { both = q.0; first_alone = q.1; second_alone = r.0; neither = r.1 }

none-from : (g : Multigraph) (s : ℕ → Bool) (all : List (List Bool)) → ((l : List Bool) → Contains all l → do_cross g s (side_of l) ≡ false) → none_cross g s all ≡ true
none-from g s [] h = refl
none-from g s (l ∷ rest) h = and_from (not (do_cross g s (side_of l))) (none_cross g s rest) (not_from_false (do_cross g s (side_of l)) (h l (contains-here l rest))) (none-from g s rest (λ k c. h k (later k c)))
  where
    later : (k : List Bool) → Contains rest k → Contains (l ∷ rest) k
    later k c = Contains-append_right (l ∷ []) rest k c

from-none : (g : Multigraph) (s : ℕ → Bool) (all : List (List Bool)) (l : List Bool) → none_cross g s all ≡ true → Contains all l → do_cross g s (side_of l) ≡ false
from-none g s [] l h c = absurd (contains-none l c)
from-none g s (k ∷ rest) l h c =
    let p = and_parts (not (do_cross g s (side_of k))) (none_cross g s rest) h in
    elim (contains-cases l k rest c) [
      | inl e ↦ subst (λ (z : List Bool). do_cross g s (side_of z) ≡ false) e (not-true (do_cross g s (side_of k)) p.0)
      | inr d ↦ from-none g s rest l p.1 d
    ]

-- the values of a side of a 2-separation are found
separation-found : (g : Multigraph) → are_in_range g ≡ true → (s : ℕ → Bool) → IsSeparation g s → Contains (separations g) (table (edge_count g) s)
separation-found g r s i = contains-filter (λ l. is_separation g (side_of l)) (table (edge_count g) s) (values (edge_count g)) (table-value (edge_count g) s)
    (separation-tested g r (side_of (table (edge_count g) s)) (separation-same g s (side_of (table (edge_count g) s)) (table-side (edge_count g) s) i))

-- the values of a side of a good 2-separation are listed
pub good-listed : (g : Multigraph) → are_in_range g ≡ true → (s : ℕ → Bool) → IsGood g s → Contains (good g) (table (edge_count g) s)
good-listed g r s i = contains-filter (λ l. none_cross g (side_of l) (separations g)) (table (edge_count g) s) (separations g) (separation-found g r s i.separation)
    (none-from g (side_of (table (edge_count g) s)) (separations g) (λ l c. elim (cases_Bool (do_cross g (side_of (table (edge_count g) s)) (side_of l))) [
      | inr n ↦ n
      | inl y ↦ absurd (i.uncrossed (side_of l) (tested-separation g r (side_of l) (filter-contains (λ l. is_separation g (side_of l)) l (values (edge_count g)) c).1)
          (cross-same g (side_of (table (edge_count g) s)) s (side_of l) (side_of l) (λ e b. sym (table-side (edge_count g) s e b)) (λ e b. refl) (tested-cross g (side_of (table (edge_count g) s)) (side_of l) y)))
    ]))

-- and what is listed is a side of a good 2-separation
pub listed-good : (g : Multigraph) → are_in_range g ≡ true → (l : List Bool) → Contains (good g) l → IsGood g (side_of l)
listed-good g r l c =
    let p = filter-contains (λ l. none_cross g (side_of l) (separations g)) l (separations g) c in
    record {
      separation = tested-separation g r (side_of l) (filter-contains (λ l. is_separation g (side_of l)) l (values (edge_count g)) p.0).1;
      uncrossed = λ t i d. both_ways (do_cross g (side_of l) (side_of (table (edge_count g) t))) (from-none g (side_of l) (separations g) (table (edge_count g) t) p.1 (separation-found g r t i))
          (cross-tested g (side_of l) (side_of (table (edge_count g) t)) (cross-same g (side_of l) (side_of l) t (side_of (table (edge_count g) t)) (λ e b. refl) (table-side (edge_count g) t) d));
    }
