-- The steps, one block and one cut vertex more.
use Rattle.std.proofs.Common.{◌≡◌, ◌≢◌, ℕ, zero, suc, ◌+◌, ◌<◌, Bool, true, ◌||◌, if◌then◌else◌, List, [], ◌∷◌, ◌++◌, length, map, slice_index, slice_index_or, refl, sym, ap, ap₂, ◌∙◌, subst, arith, add-one}
use Rattle.std.specs.List.{list_any}
use Rattle.std.proofs.lemmas.Bool.{cond-true, cond-false, false_from_ne_true}
use Rattle.std.proofs.lemmas.List.{append_assoc}
use Rattle.permutations.specs.Members.{is_member, place_of}
use Rattle.permutations.proofs.Members.{member-head, member-tail}
use Rattle.permutations.proofs.Mapped.{map-member}
use Rattle.permutations.proofs.Arrangements.{member-at}
use Rattle.permutations.proofs.Places.{place-below, place-holds}
use Rattle.multigraph.specs.Graph.{incident_edges}
use Rattle.multigraph.specs.Part.{IsNumbered}
use Rattle.rotations.proofs.Membership.{member-edge}
use Rattle.arrangements.specs.Arranged.{same_list}
use Rattle.arrangements.proofs.Lists.{equal-same, same-equal}
use Rattle.whole_embed.specs.Component.{Component, BlockInPlane}
use Rattle.whole_embed.specs.Around.{outer_at, edges_around, block_with}
use Rattle.whole_embed.specs.Walk.{first_around}
use Rattle.whole_embed.proofs.Outer.{place-rising}
use Rattle.whole_convert.specs.Between.{WholeStep, moves_of, moves_below, has_block_at, list_then, arrangement_at, arrangements_below, move_block, arrange}

-- one block more
pub moves-more : (k : Component) (old new : ℕ → BlockInPlane) (n : ℕ) → moves_below k old new n ++ map (move_block (slice_index k.blocks n)) (moves_of old new (slice_index k.blocks n)) ≡ moves_below k old new (n + 1)
moves-more k old new n = sym (ap (moves_below k old new) (add-one n))

-- no arrangement, or one
pub no-arrangement : (k : Component) (list : ℕ → List ℕ) (q : List (List ℕ)) (i : ℕ) → outer_at k.part q (slice_index k.cuts i) ≡ list i → arrangement_at k list q i ≡ []
no-arrangement k list q i e = cond-true (same_list (outer_at k.part q (slice_index k.cuts i)) (list i)) [] (arrange (slice_index k.cuts i) (outer_at k.part q (slice_index k.cuts i)) ∷ []) (equal-same (outer_at k.part q (slice_index k.cuts i)) (list i) e)

pub an-arrangement : (k : Component) (list : ℕ → List ℕ) (q : List (List ℕ)) (i : ℕ) → outer_at k.part q (slice_index k.cuts i) ≢ list i → arrangement_at k list q i ≡ arrange (slice_index k.cuts i) (outer_at k.part q (slice_index k.cuts i)) ∷ []
an-arrangement k list q i n = cond-false (same_list (outer_at k.part q (slice_index k.cuts i)) (list i)) [] (arrange (slice_index k.cuts i) (outer_at k.part q (slice_index k.cuts i)) ∷ [])
    (false_from_ne_true (same_list (outer_at k.part q (slice_index k.cuts i)) (list i)) (λ y. n (same-equal (outer_at k.part q (slice_index k.cuts i)) (list i) y)))

-- one cut vertex more
pub arrangements-more : (k : Component) (list : ℕ → List ℕ) (q : List (List ℕ)) (n : ℕ) (old now new added : List WholeStep) → now ≡ old ++ arrangements_below k list q n → added ≡ arrangement_at k list q n → new ≡ now ++ added → new ≡ old ++ arrangements_below k list q (n + 1)
arrangements-more k list q n old now new added e f h =
    h ∙ (ap₂ ◌++◌ e f
    ∙ (append_assoc old (arrangements_below k list q n) (arrangement_at k list q n)
    ∙ ap (λ z. old ++ arrangements_below k list q z) (sym (add-one n))))

-- the step that is added where the arrangement is another one, and none where it is not
pub one-added : (k : Component) (list : ℕ → List ℕ) (q : List (List ℕ)) (i v : ℕ) (order : List ℕ) → v ≡ slice_index k.cuts i → order ≡ outer_at k.part q v → order ≢ list i → arrange v order ∷ [] ≡ arrangement_at k list q i
one-added k list q i v order is e n =
    let own : order ≡ outer_at k.part q (slice_index k.cuts i) = e ∙ ap (outer_at k.part q) is in
    (λ j. arrange (is j) (own j) ∷ []) ∙ sym (an-arrangement k list q i (λ same. n (own ∙ same)))

pub none-added : (k : Component) (list : ℕ → List ℕ) (q : List (List ℕ)) (i v : ℕ) (order : List ℕ) → v ≡ slice_index k.cuts i → order ≡ outer_at k.part q v → order ≡ list i → [] ≡ arrangement_at k list q i
none-added k list q i v order is e same = sym (no-arrangement k list q i (sym (e ∙ ap (outer_at k.part q) is) ∙ same))

-- lists that agree at the cut vertices
pub arrangements-same : (k : Component) (list other : ℕ → List ℕ) (q : List (List ℕ)) (n : ℕ) → ((i : ℕ) → i < n → list i ≡ other i) → arrangements_below k list q n ≡ arrangements_below k other q n
arrangements-same k list other q zero same = refl
arrangements-same k list other q (suc n) same = ap₂ ◌++◌ (arrangements-same k list other q n (λ i l. same i (omega (arith, l))))
    (ap (λ (z : List ℕ). if same_list (outer_at k.part q (slice_index k.cuts n)) z then [] else arrange (slice_index k.cuts n) (outer_at k.part q (slice_index k.cuts n)) ∷ []) (same n (omega arith)))

-- whether some member passes, of tests that agree on the members; and of images
pub any-same : (p q : ℕ → Bool) (l : List ℕ) → ((x : ℕ) → is_member x l ≡ true → p x ≡ q x) → list_any p l ≡ list_any q l
any-same p q [] h = refl
any-same p q (x ∷ l) h = ap₂ ◌||◌ (h x (member-head x l)) (any-same p q l (λ y m. h y (member-tail y x l m)))

pub any-map : (p : ℕ → Bool) (f : ℕ → ℕ) (l : List ℕ) → list_any p (map f l) ≡ list_any (λ x. p (f x)) l
any-map p f [] = refl
any-map p f (x ∷ l) = ap (λ z. p (f x) || z) (any-map p f l)

module _ (k : Component) (numbered : IsNumbered k.part) where
  -- an edge around a vertex is one of the component
  pub around-edge : (v e : ℕ) → is_member e (edges_around k v) ≡ true → is_member e k.part.edges ≡ true
  around-edge v e m =
      let w = map-member (slice_index k.part.edges) (incident_edges k.part.graph (place_of k.part.vertices v)) e m in
      subst (λ z. is_member z k.part.edges ≡ true) w.2 (member-at k.part.edges w.0 0 (omega (arith, member-edge k.part.graph (place_of k.part.vertices v) w.0 w.1, numbered.edge_each)))

  -- whether there is a block that passes, by the numbers in the component
  pub inner-any : (test : ℕ → Bool) (v i : ℕ) → i ≡ place_of k.part.vertices v → list_any (λ x. test (slice_index k.edge_blocks x)) (incident_edges k.part.graph i) ≡ has_block_at k test v
  inner-any test v i e =
      ap (λ z. list_any (λ x. test (slice_index k.edge_blocks x)) (incident_edges k.part.graph z)) e
      ∙ (any-same (λ x. test (slice_index k.edge_blocks x)) (λ x. test (block_with k (slice_index k.part.edges x))) (incident_edges k.part.graph (place_of k.part.vertices v))
      (λ x m. ap (λ z. test (slice_index k.edge_blocks z)) (sym (place-rising k.part.edges x numbered.edges_rise (omega (arith, member-edge k.part.graph (place_of k.part.vertices v) x m, numbered.edge_each)))))
      ∙ sym (any-map (λ x. test (block_with k x)) (slice_index k.part.edges) (incident_edges k.part.graph (place_of k.part.vertices v))))

-- tests that agree on the blocks of the component
pub then-same : (k : Component) (new : ℕ → BlockInPlane) (p q : ℕ → Bool) (lists : List (List ℕ)) (i : ℕ) → IsNumbered k.part → ((e : ℕ) → is_member e k.part.edges ≡ true → is_member (block_with k e) k.blocks ≡ true)
    → ((j : ℕ) → j < length k.blocks → p (slice_index k.blocks j) ≡ q (slice_index k.blocks j)) → list_then k new p lists i ≡ list_then k new q lists i
then-same k new p q lists i numbered inside same =
    ap (λ z. if z then first_around k new i else slice_index_or lists i [])
    (any-same (λ e. p (block_with k e)) (λ e. q (block_with k e)) (edges_around k (slice_index k.cuts i))
    (λ e m.
    let b : ℕ = block_with k e in
    let mb : is_member (block_with k e) k.blocks ≡ true = inside e (around-edge k numbered (slice_index k.cuts i) e m) in
    subst (λ z. p z ≡ q z) (place-holds k.blocks b mb) (same (place_of k.blocks b) (place-below k.blocks b mb))))
