-- Components whose pieces are in another order have the same links and the same sides of links.
use Rattle.std.proofs.Common.{◌≡◌, ℕ, ◌+◌, ◌≤◌, ◌&&◌, ◌||◌, nat_lt, Bool, true, false, cond, List, [], ◌∷◌, length, map, filter, refl, sym, ap, ap₂, ◌∙◌, subst, arith, Contains, zero-add}
use Rattle.std.proofs.lemmas.Bool.{lt-ltb}
use Rattle.permutations.specs.Count.{some}
use Rattle.permutations.specs.Relation.{connected}
use Rattle.permutations.proofs.Search.{some-ext}
use Rattle.permutations.proofs.Relation.{same-tests, connected-reflexive, connected-symmetric, connected-transitive, connected-link, connected-closed}
use Rattle.pair_split.specs.Skeleton.{is_end_of, is_vertex}
use Rattle.pair_split.specs.Split.{items_of, item_at, piece_ends, all_links, joins_others, is_beyond, is_edge, has_edge, side, LinksTo}
use Rattle.pair_split.specs.declared.components.Piece.{Piece}
use Rattle.pair_split.specs.declared.components.Comp.{Comp}
use Rattle.pair_split.proofs.Elements.{contains-filter, filter-contains}
use Rattle.pair_split.proofs.GraphFamily.{all-from_contained}
use Rattle.pair_split.proofs.Links.{no_piece, link-contained, contained-link}
use Rattle.spqr_tree.specs.Merged.{how_many}
use Rattle.spqr_tree.proofs.MergeCounts.{number-cons, number-from, number-some}
use Rattle.spqr_tree.proofs.JoinedMerging.{is_link, is_link-true, link-is}

-- one more counted
or-count : (a b : Bool) (n m : ℕ) → b ≡ nat_lt 0 n → m ≡ cond a 1 0 + n → (a || b) ≡ nat_lt 0 m
or-count true b n m e f = sym (lt-ltb 0 m (omega (arith, f)))
or-count false b n m e f = e ∙ ap (nat_lt 0) (sym (f ∙ zero-add n))

-- whether a vertex is one of some pieces, by a count
pub vertex-counted : (pieces : List Piece) (v : ℕ) → is_vertex (map piece_ends pieces) v ≡ nat_lt 0 (how_many (λ p. is_end_of v (piece_ends p)) pieces)
vertex-counted [] v = refl
vertex-counted (q ∷ pieces) v = or-count (is_end_of v (piece_ends q)) (is_vertex (map piece_ends pieces) v) (how_many (λ p. is_end_of v (piece_ends p)) pieces) (how_many (λ p. is_end_of v (piece_ends p)) (q ∷ pieces)) (vertex-counted pieces v) (number-cons (λ p. is_end_of v (piece_ends p)) q pieces)

-- whether an edge is one of some pieces, by a count
pub edge-counted : (pieces : List Piece) (e : ℕ) → has_edge pieces e ≡ nat_lt 0 (how_many (λ p. is_edge e p.what) pieces)
edge-counted [] e = refl
edge-counted (q ∷ pieces) e = or-count (is_edge e q.what) (has_edge pieces e) (how_many (λ p. is_edge e p.what) pieces) (how_many (λ p. is_edge e p.what) (q ∷ pieces)) (edge-counted pieces e) (number-cons (λ p. is_edge e p.what) q pieces)

-- the components have the same pieces, as far as counts tell
abbrev pub HaveSamePieces : List Comp → List Comp → Type 0
HaveSamePieces comps others = (k : ℕ) (t : Piece → Bool) → how_many t (items_of comps k) ≡ how_many t (items_of others k)

-- so they have the same links
pub same-link_to : (comps others : List Comp) → HaveSamePieces comps others → (k j : ℕ) → LinksTo comps k j → LinksTo others k j
same-link_to comps others h k j s =
    let w = number-some no_piece (λ p. is_link j p.what) (items_of others k) (subst (λ z. 1 ≤ z) (h k (λ p. is_link j p.what)) (number-from no_piece (λ p. is_link j p.what) (items_of comps k) s.0 s.1.0 (link-is j (item_at comps k s.0).what s.1.1))) in
    (w.0, (w.1, is_link-true j (item_at others k w.0).what w.2))

-- what some links connect, more links connect
connected-more : (links others : List (ℕ × ℕ)) → ((link : ℕ × ℕ) → Contains links link → Contains others link) → (x y : ℕ) → connected links x y ≡ true → connected others x y ≡ true
connected-more links others h x y c =
    sym (connected-closed links (connected others x) (all-from_contained (λ link. connected others x link.0 ≡ connected others x link.1) links (λ link d.
    let e = connected-link others link.0 link.1 (h link d) in
    same-tests (connected others x link.0) (connected others x link.1) (λ a. connected-transitive others x link.0 link.1 a e) (λ a. connected-transitive others x link.1 link.0 a (connected-symmetric others link.0 link.1 e)))) x y c)
    ∙ connected-reflexive others x

-- and the same is beyond a link
beyond-more : (comps others : List Comp) → HaveSamePieces comps others → (k j c : ℕ) → is_beyond comps k j c ≡ true → is_beyond others k j c ≡ true
beyond-more comps others h k j c = connected-more (filter (joins_others k j) (all_links 0 comps)) (filter (joins_others k j) (all_links 0 others)) (λ link d.
    let w = filter-contains (joins_others k j) link (all_links 0 comps) d in
    contains-filter (joins_others k j) link (all_links 0 others) (link-contained others link.0 link.1 (same-link_to comps others h link.0 link.1 (contained-link comps link w.0))) w.1) j c

-- and the sides of links are the same
pub same-side : (comps others : List Comp) → length comps ≡ length others → HaveSamePieces comps others → (k j e : ℕ) → side comps k j e ≡ side others k j e
same-side comps others n h k j e =
    some-ext (length comps) (λ c. is_beyond comps k j c && has_edge (items_of comps c) e) (λ c. is_beyond others k j c && has_edge (items_of others c) e) (λ c l.
    ap₂ (λ (a b : Bool). a && b)
    (same-tests (is_beyond comps k j c) (is_beyond others k j c) (beyond-more comps others h k j c) (beyond-more others comps (λ d t. sym (h d t)) k j c))
    (edge-counted (items_of comps c) e ∙ (ap (nat_lt 0) (h c (λ p. is_edge e p.what)) ∙ sym (edge-counted (items_of others c) e))))
    ∙ ap (λ z. some z (λ c. is_beyond others k j c && has_edge (items_of others c) e)) n
