-- The codes that apply to permutes.
use Rattle.std.proofs.Common.{◌≡◌, ℕ, ◌<◌, Bool, true, false, not, List, ◌∷◌, length, Option, None, Some, All, IsPermutation, sym, ap, subst}
use Rattle.std.specs.Prelude.{◌↔◌, IsTrue}
use Rattle.std.proofs.lemmas.Bool.{both_ways, lt-ltb}
use Rattle.permutations.specs.Members.{is_distinct}
use Rattle.permutations.proofs.Places.{told-distinct}
use Rattle.multigraph.specs.Part.{Rises, IsNumbered}
use Rattle.multigraph.proofs.Places.{rises-once}
use Rattle.pair_split.specs.Tutte.{node_at}
use Rattle.pair_split.specs.declared.components.Kind.{Kind}
use Rattle.pair_split.specs.declared.components.Kind.TheVariants.{P}
use Rattle.skeletons.specs.Items.{node_keys, IsBlockTree}
use Rattle.skel_embed.specs.declared.planes.Outcome.{Outcome}
use Rattle.spqr_session.specs.Embedded.{BlockView, block_view, IsEmbedded}
use Rattle.spqr_session.specs.Codes.{Ladder, first_code}
use Rattle.spqr_session.specs.BlockCodes.{is_node, is_planar, kind_of, entry_codes, of_entry, lock_codes}
use Rattle.pair_split.specs.Kinds.{is_bond}
use Rattle.gml_graph.specs.Arranged.{is_arrangement}
use Rattle.spqr_session.specs.Commands.Permute.{outer_edges, inner_edges, permute_codes}
use Rattle.spqr_session.specs.Planned.{IsVerdict, AreArranged, IsPermuteVerdict}
use Rattle.spqr_session.specs.declared.code.Code.{Code}
use Rattle.spqr_session.specs.declared.code.Code.TheVariants.{NoNode, WrongKind, BadOrder, NonPlanar}
use Rattle.spqr_script.proofs.PartNodes.{node-of_part}
use Rattle.spqr_session.proofs.InnerKeys.{order-right, order-wrong}
use Rattle.spqr_session.proofs.Ladders.{rung-hit, rung-missed}
use Rattle.spqr_session.proofs.MovesCarried.{keys-within}

-- the tree of a block that is seen
pub seen-tree : (v : BlockView) (o : Outcome) → block_view v.tree.part o ≡ v → IsEmbedded v.tree.part o → IsBlockTree v.tree.part.graph v.tree.nodes
seen-tree v o view is = subst (IsBlockTree v.tree.part.graph) (ap (λ (x : BlockView). x.tree.nodes) view) is.tree

-- what the test of the block's keys tells
pub test-right : (arranged : Bool) (own keys given inner : List ℕ) → (IsTrue arranged ↔ IsPermutation own keys) → own ≡ given → keys ≡ inner → arranged ≡ true → IsPermutation given inner
test-right arranged own keys given inner test e f t = subst (λ (l : List ℕ). IsPermutation l inner) e (subst (λ (l : List ℕ). IsPermutation own l) f (test.0 t))

pub test-wrong : (arranged : Bool) (own keys given inner : List ℕ) → (IsTrue arranged ↔ IsPermutation own keys) → own ≡ given → keys ≡ inner → arranged ≡ false → IsPermutation given inner → ⊥
test-wrong arranged own keys given inner test e f n p = both_ways arranged n (test.1 (subst (λ (l : List ℕ). IsPermutation l keys) (sym e) (subst (λ (l : List ℕ). IsPermutation given l) (sym f) p)))

-- ---- the keys of a node

module _ (v : BlockView) (k : ℕ) (numbered : IsNumbered v.tree.part) (t : IsBlockTree v.tree.part.graph v.tree.nodes) (l : k < length v.tree.nodes) where
  abbrev own : List ℕ
  own = node_keys v.tree.nodes k

  pub own-rises : Rises own
  own-rises = t.tree.in_order.keys_rise k l

  own-once : is_distinct own ≡ true
  own-once = told-distinct own (rises-once own own-rises)

  own-within : All (λ x. x < length v.tree.part.edges) own
  own-within = keys-within v.tree (length v.tree.part.edges) (node_at v.tree.nodes k).items (sym numbered.edge_each) (node-of_part v.tree.part v.tree.nodes k t.graph t.tree l).items

  -- the test in the numbers of the block is that of the codes
  pub keys-right : (keys : List ℕ) → IsPermutation own (inner_edges v.tree keys) → is_arrangement (outer_edges v.tree own) keys ≡ true
  keys-right keys = order-right v.tree numbered own keys own-once own-within

  pub keys-wrong : (keys : List ℕ) → (IsPermutation own (inner_edges v.tree keys) → ⊥) → is_arrangement (outer_edges v.tree own) keys ≡ false
  keys-wrong keys = order-wrong v.tree numbered own keys own-once own-within

-- ---- the codes of a bond

module _ (v : BlockView) (k : ℕ) (keys : List ℕ) (l : k < length v.tree.nodes) (kind : kind_of v.tree k ≡ P) where
  abbrev good : Bool
  good = is_arrangement (outer_edges v.tree (node_keys v.tree.nodes k)) keys

  abbrev behind : Ladder
  behind = (NonPlanar, not (is_planar v.entry)) ∷ of_entry (lock_codes k) v.entry

  -- codes 2 and 3 do not apply
  past-kind : (o : Option Code) → first_code ((BadOrder, not good) ∷ behind) ≡ o → first_code (permute_codes k keys v.tree v.entry) ≡ o
  past-kind o e =
      rung-missed NoNode (not (is_node v.tree k)) ((WrongKind, not (is_bond (kind_of v.tree k))) ∷ (BadOrder, not good) ∷ behind) o (ap not (lt-ltb k (length v.tree.nodes) l))
      (rung-missed WrongKind (not (is_bond (kind_of v.tree k))) ((BadOrder, not good) ∷ behind) o (ap (λ (x : Kind). not (is_bond x)) kind) e)

  -- code 4
  pub order-refused : good ≡ false → first_code (permute_codes k keys v.tree v.entry) ≡ Some BadOrder
  order-refused f = past-kind (Some BadOrder) (rung-hit BadOrder (not good) behind (ap not f))

  -- codes 5 and 12
  past-order : good ≡ true → (o : Option Code) → first_code behind ≡ o → first_code (permute_codes k keys v.tree v.entry) ≡ o
  past-order t o e = past-kind o (rung-missed BadOrder (not good) behind o (ap not t) e)

  pub bond-verdict : good ≡ true → AreArranged k keys v.tree → (o : Option Code) → IsVerdict (entry_codes (λ tree. lock_codes k) v.tree v.entry) o → IsPermuteVerdict k keys v o
  bond-verdict t arranged None h = (past-order t None h, arranged)
  bond-verdict t arranged (Some code) h = past-order t (Some code) h
