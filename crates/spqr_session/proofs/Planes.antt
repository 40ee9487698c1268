-- A block that is seen in the plane, and what its calls say of the list in which it stands.
use Rattle.std.proofs.Common.{◌≡◌, ℕ, ◌<◌, ◌≤◌, ◌^◌, true, false, not, nat_lt, List, [], length, Option, None, Some, refl, sym, ap, ◌∙◌, subst, arith}
use Rattle.std.proofs.lemmas.Bool.{lt-ltb, false_from_ne_true, ltb-true}
use Rattle.multigraph.specs.Graph.{Multigraph}
use Rattle.pair_split.specs.Tutte.{Node}
use Rattle.skeletons.specs.Items.{IsBlockTree}
use Rattle.skeletons.specs.Lists.{IsKeptList, IsRank}
use Rattle.skel_embed.specs.Block.{BlockState, lock_at}
use Rattle.skel_embed.specs.declared.planes.Outcome.{Outcome}
use Rattle.skel_embed.specs.declared.planes.Outcome.TheVariants.{Plane}
use Rattle.embed_enum.specs.Walk.{IsMemberList}
use Rattle.spqr_script.specs.Answers.Count.{count_text}
use Rattle.spqr_script.specs.Answers.Rank.{rank_text}
use Rattle.spqr_session.specs.Trees.{BlockTree}
use Rattle.spqr_session.specs.State.{Embedding, IsEntry}
use Rattle.spqr_session.specs.Embedded.{BlockView, block_view, IsEmbedded}
use Rattle.spqr_session.specs.Codes.{Ladder, code_text, first_code}
use Rattle.spqr_session.specs.BlockCodes.{Answered, TellsBlock}
use Rattle.spqr_session.specs.Members.{AreMembers, is_over}
use Rattle.spqr_session.specs.Products.{member_count, product_count_codes}
use Rattle.spqr_session.specs.Commands.Count.{IsCounted, IsRanked}
use Rattle.spqr_session.specs.declared.code.Code.{Code}
use Rattle.spqr_session.specs.declared.code.Code.TheVariants.{CountOver}
use Rattle.spqr_session.proofs.Ladders.{rung-hit, rung-missed}
use Rattle.spqr_session.proofs.MembersCarried.{Listed, listed, ranks-one}

-- the embedding that it stands at
abbrev pub seen_embedding : BlockState → Embedding
seen_embedding p = record { rotation = p.rotation; locks = p.locks }

-- a block is seen as this one in the plane
pub record SeenPlane (v : BlockView) (p : BlockState) : Type 0 where
  pub graph : p.graph ≡ v.tree.part.graph
  pub nodes : p.tree ≡ v.tree.nodes
  pub entry : v.entry ≡ Some (seen_embedding p)
  pub tree : IsBlockTree v.tree.part.graph v.tree.nodes
  pub right : IsEntry v.tree None (Some (seen_embedding p))

pub seen-plane : (v : BlockView) (o : Outcome) (p : BlockState) → block_view v.tree.part o ≡ v → IsEmbedded v.tree.part o → o ≡ Plane p → SeenPlane v p
seen-plane v o p view is e =
    let plane : IsEmbedded v.tree.part (Plane p) = subst (IsEmbedded v.tree.part) e is in
    let seen : block_view v.tree.part (Plane p) ≡ v = ap (block_view v.tree.part) (sym e) ∙ view in
    record {
      graph = plane.graph;
      nodes = ap (λ (x : BlockView). x.tree.nodes) seen;
      entry = sym (ap (λ (x : BlockView). x.entry) seen);
      tree = subst (IsBlockTree v.tree.part.graph) (ap (λ (x : BlockView). x.tree.nodes) seen) plane.tree;
      right = subst (λ (t : BlockTree). IsEntry t None (Some (seen_embedding p))) (ap (λ (x : BlockView). x.tree) seen) plane.entry;
    }

module _ (v : BlockView) (p : BlockState) (seen : SeenPlane v p) where
  abbrev here : Embedding
  here = seen_embedding p

  -- its list is that of the block
  pub same-list : (l : List (List (List ℕ))) → AreMembers v.tree here l → IsMemberList p l
  same-list l a =
      subst (λ (g : Multigraph). IsKeptList g p.tree (lock_at p.locks) p.rotation l) (sym seen.graph)
      (subst (λ (t : List Node). IsKeptList v.tree.part.graph t (lock_at p.locks) p.rotation l) (sym seen.nodes) a)

  pub its-list : Listed v.tree here
  its-list = listed v.tree here seen.tree seen.right

  pub own-list : IsMemberList p its-list.list
  own-list = same-list its-list.list its-list.are

  -- what is told of its entry
  pub told-entry : (more : BlockTree → Embedding → Ladder) (IsAbout : BlockTree → Embedding → List ℕ → Type 0) (text : List ℕ) → Answered (first_code (more v.tree here)) text (IsAbout v.tree here text) → TellsBlock v.tree v.entry more IsAbout text
  told-entry more IsAbout text a = subst (λ (o : Option Embedding). TellsBlock v.tree o more IsAbout text) (sym seen.entry) a

  -- code 10 applies where the list has 2^128 members or more, and nowhere else
  pub not-over : length its-list.list < 2 ^ 128 → is_over (member_count v.tree here) ≡ false
  not-over l = ap not (lt-ltb (member_count v.tree here) (2 ^ 128) (omega (arith, l, its-list.counted)))

  pub over : 2 ^ 128 ≤ length its-list.list → is_over (member_count v.tree here) ≡ true
  over l = ap not (false_from_ne_true (nat_lt (member_count v.tree here) (2 ^ 128)) (λ t. omega (arith, l, its-list.counted, ltb-true (member_count v.tree here) (2 ^ 128) t)))

  -- the line of code 10
  pub told-over : (IsAbout : BlockTree → Embedding → List ℕ → Type 0) (text : List ℕ) → 2 ^ 128 ≤ length its-list.list → text ≡ code_text CountOver → TellsBlock v.tree v.entry product_count_codes IsAbout text
  told-over IsAbout text l e = told-entry product_count_codes IsAbout text
      (subst (λ (c : Option Code). Answered c text (IsAbout v.tree here text)) (sym (rung-hit CountOver (is_over (member_count v.tree here)) [] (over l))) e)

  -- an answer, where it does not apply
  pub told-below : (IsAbout : BlockTree → Embedding → List ℕ → Type 0) (text : List ℕ) → length its-list.list < 2 ^ 128 → IsAbout v.tree here text → TellsBlock v.tree v.entry product_count_codes IsAbout text
  told-below IsAbout text l a = told-entry product_count_codes IsAbout text
      (subst (λ (c : Option Code). Answered c text (IsAbout v.tree here text)) (sym (rung-missed CountOver (is_over (member_count v.tree here)) [] None (not-over l) refl)) a)

  -- the count
  pub told-count : (n : ℕ) (text : List ℕ) → n < 2 ^ 128 → ((l : List (List (List ℕ))) → IsMemberList p l → n ≡ length l) → text ≡ count_text n → TellsBlock v.tree v.entry product_count_codes IsCounted text
  told-count n text below counted e =
      let n-is = counted its-list.list own-list in
      told-below IsCounted text (omega (arith, below, n-is)) (λ l a. e ∙ ap count_text (counted l (same-list l a)))

  -- the rank
  pub told-rank : (k : ℕ) (text : List ℕ) → ((l : List (List (List ℕ))) → IsMemberList p l → IsRank l p.rotation k) → ((l : List (List (List ℕ))) → IsMemberList p l → length l < 2 ^ 128) → text ≡ rank_text k → TellsBlock v.tree v.entry product_count_codes IsRanked text
  told-rank k text ranked below e =
      told-below IsRanked text (below its-list.list own-list) (λ l i a x. e ∙ ap rank_text (ranks-one v.tree here l p.rotation k i a (ranked l (same-list l a)) x))
