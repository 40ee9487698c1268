-- The links of components, as a list of pairs, and the edges of components.
use Rattle.std.proofs.Common.{◌≡◌, ℕ, zero, suc, ◌+◌, ◌<◌, ◌&&◌, inl, inr, true, List, [], ◌∷◌, length, map, slice_index_or, refl, sym, ap, subst, arith, Contains}
use Rattle.std.proofs.lemmas.Bool.{cases_lt, or_cases, or_left, or_right, and_parts, and_from, eq-eqb, eqb-true, true≢false}
use Rattle.std.proofs.lemmas.List.{get_or_past}
use Rattle.std.proofs.lemmas.List.Elements.{Contains-append_left, Contains-append_right, Contains-append_cases}
use Rattle.permutations.proofs.Search.{some-from, some-witness}
use Rattle.permutations.proofs.Relation.{same-tests}
use Rattle.pair_split.specs.Split.{component_at, items_of, StandsFor, target, links_from, all_links, LinksTo, is_edge, has_edge, is_beyond, side}
use Rattle.pair_split.specs.declared.components.What.{What}
use Rattle.pair_split.specs.declared.components.What.TheVariants.{Real, Link}
use Rattle.pair_split.specs.declared.components.Piece.{Piece}
use Rattle.pair_split.specs.declared.components.Comp.{Comp}
use Rattle.pair_split.proofs.Elements.{contains-here, contains-cases, contains-none}

-- an item where there is none
abbrev pub no_piece : Piece
no_piece = record { a = 0; b = 0; what = Real 0 }

-- a component with an item is one of the components
pub stands-in : (comps : List Comp) (k i : ℕ) (what : What) → StandsFor comps k i what → k < length comps
stands-in comps k i what s = elim (cases_lt k (length comps)) [
  | inl l ↦ l
  | inr l ↦ absurd (omega (arith, s.0, ap (λ (comp : Comp). length comp.items) (get_or_past comps k (component_at [] 0) l)))
]

-- a link of an item is one of the links from its component
links_from-has : (k : ℕ) (pieces : List Piece) (i j : ℕ) → i < length pieces → (slice_index_or pieces i no_piece).what ≡ Link j → Contains (links_from k pieces) (k, j)
links_from-has k [] i j l e = absurd (omega (arith, l))
links_from-has k (piece ∷ pieces) zero j l e = Contains-append_left (map (λ (h : ℕ). (k, h)) (target piece.what)) (links_from k pieces) (k, j)
    (subst (λ (w : What). Contains {X = ℕ × ℕ} (map (λ (h : ℕ). (k, h)) (target w)) (k, j)) (sym e) (contains-here (k, j) []))
links_from-has k (piece ∷ pieces) (suc i) j l e = Contains-append_right (map (λ (h : ℕ). (k, h)) (target piece.what)) (links_from k pieces) (k, j) (links_from-has k pieces i j (omega (arith, l)) e)

-- where the links of one item lead
target-only : (k : ℕ) (what : What) (link : ℕ × ℕ) → Contains (map (λ (h : ℕ). (k, h)) (target what)) link → (link.0 ≡ k) × (what ≡ Link link.1)
target-only k (Real e) link c = absurd (contains-none link c)
target-only k (Link j) link c = elim (contains-cases link (k, j) [] c) [
  | inl e ↦ (ap (λ (z : ℕ × ℕ). z.0) (sym e), ap (λ (z : ℕ × ℕ). Link z.1) e)
  | inr n ↦ absurd (contains-none link n)
]

-- each link from a component is that of an item
links_from-only : (k : ℕ) (pieces : List Piece) (link : ℕ × ℕ) → Contains (links_from k pieces) link → (link.0 ≡ k) × ((i : ℕ) × (i < length pieces) × ((slice_index_or pieces i no_piece).what ≡ Link link.1))
links_from-only k [] link c = absurd (contains-none link c)
links_from-only k (piece ∷ pieces) link c = elim (Contains-append_cases (map (λ (h : ℕ). (k, h)) (target piece.what)) (links_from k pieces) link c) [
  | inl d ↦ let w = target-only k piece.what link d in (w.0, (0, omega arith, w.1))
  | inr d ↦ let w = links_from-only k pieces link d in (w.0, (suc w.1.0, omega (arith, w.1.1), w.1.2))
]

-- each link is one of all links
all_links-has : (n : ℕ) (comps : List Comp) (k i j : ℕ) → StandsFor comps k i (Link j) → Contains (all_links n comps) (n + k, j)
all_links-has n [] k i j s = absurd (omega (arith, stands-in [] k i (Link j) s))
all_links-has n (comp ∷ comps) zero i j s = Contains-append_left (links_from n comp.items) (all_links (n + 1) comps) (n + 0, j)
    (subst (λ z. Contains (links_from n comp.items) (z, j)) (omega arith) (links_from-has n comp.items i j s.0 s.1))
all_links-has n (comp ∷ comps) (suc k) i j s = Contains-append_right (links_from n comp.items) (all_links (n + 1) comps) (n + suc k, j)
    (subst (λ z. Contains (all_links (n + 1) comps) (z, j)) (omega arith) (all_links-has (n + 1) comps k i j s))

-- all links are links
all_links-only : (n : ℕ) (comps : List Comp) (link : ℕ × ℕ) → Contains (all_links n comps) link → (k : ℕ) × (link.0 ≡ n + k) × LinksTo comps k link.1
all_links-only n [] link c = absurd (contains-none link c)
all_links-only n (comp ∷ comps) link c = elim (Contains-append_cases (links_from n comp.items) (all_links (n + 1) comps) link c) [
  | inl d ↦ let w = links_from-only n comp.items link d in
      (0, omega (arith, w.0), (w.1.0, (w.1.1, w.1.2)))
  | inr d ↦ let w = all_links-only (n + 1) comps link d in (suc w.0, omega (arith, w.1), w.2)
]

pub link-contained : (comps : List Comp) (k j : ℕ) → LinksTo comps k j → Contains (all_links 0 comps) (k, j)
link-contained comps k j s = subst (λ z. Contains (all_links 0 comps) (z, j)) (omega arith) (all_links-has 0 comps k s.0 j s.1)

pub contained-link : (comps : List Comp) (link : ℕ × ℕ) → Contains (all_links 0 comps) link → LinksTo comps link.0 link.1
contained-link comps link c = let w = all_links-only 0 comps link c in subst (λ z. LinksTo comps z link.1) (omega (arith, w.1)) w.2

-- what stands for an edge is that edge
is_edge-real : (e : ℕ) (what : What) → is_edge e what ≡ true → what ≡ Real e
is_edge-real e (Real f) h = ap Real (eqb-true f e h)
is_edge-real e (Link j) h = absurd (true≢false (sym h))

real-is_edge : (e : ℕ) (what : What) → what ≡ Real e → is_edge e what ≡ true
real-is_edge e what h = subst (λ (w : What). is_edge e w ≡ true) (sym h) (eq-eqb e e refl)

has_edge-item : (pieces : List Piece) (e : ℕ) → has_edge pieces e ≡ true → (i : ℕ) × (i < length pieces) × ((slice_index_or pieces i no_piece).what ≡ Real e)
has_edge-item [] e h = absurd (true≢false (sym h))
has_edge-item (piece ∷ pieces) e h = elim (or_cases (is_edge e piece.what) (has_edge pieces e) h) [
  | inl a ↦ (0, omega arith, is_edge-real e piece.what a)
  | inr a ↦ let w = has_edge-item pieces e a in (suc w.0, omega (arith, w.1), w.2)
]

item-has_edge : (pieces : List Piece) (e i : ℕ) → i < length pieces → (slice_index_or pieces i no_piece).what ≡ Real e → has_edge pieces e ≡ true
item-has_edge [] e i l h = absurd (omega (arith, l))
item-has_edge (piece ∷ pieces) e zero l h = or_left (is_edge e piece.what) (has_edge pieces e) (real-is_edge e piece.what h)
item-has_edge (piece ∷ pieces) e (suc i) l h = or_right (is_edge e piece.what) (has_edge pieces e) (item-has_edge pieces e i (omega (arith, l)) h)

-- an edge that is in one component alone is on the side of a link where that component is
pub side-home : (comps : List Comp) (k j h i e : ℕ) → StandsFor comps h i (Real e) → ((d f : ℕ) → StandsFor comps d f (Real e) → d ≡ h) → side comps k j e ≡ is_beyond comps k j h
side-home comps k j h i e s alone = same-tests (side comps k j e) (is_beyond comps k j h)
    (λ t.
    let w = some-witness (length comps) (λ c. is_beyond comps k j c && has_edge (items_of comps c) e) t in
    let p = and_parts (is_beyond comps k j w.0) (has_edge (items_of comps w.0) e) w.2 in
    let f = has_edge-item (items_of comps w.0) e p.1 in
    subst (λ z. is_beyond comps k j z ≡ true) (alone w.0 f.0 (f.1, f.2)) p.0)
    (λ t. some-from (length comps) (λ c. is_beyond comps k j c && has_edge (items_of comps c) e) h (stands-in comps h i (Real e) s)
    (and_from (is_beyond comps k j h) (has_edge (items_of comps h) e) t (item-has_edge (items_of comps h) e i s.0 s.1)))
