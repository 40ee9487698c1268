-- The plans of ways along the list of a block that is seen in the plane, and what comes of them.
use Rattle.std.proofs.Common.{◌≡◌, ℕ, ◌<◌, ◌≤◌, ◌^◌, ◌⊎◌, true, false, not, nat_lt, List, [], ◌∷◌, length, map, Option, None, Some, inl, inr, refl, sym, ap, ◌∙◌, subst, arith}
use Rattle.std.proofs.lemmas.Bool.{lt-ltb, ltb-true, false_from_ne_true}
use Rattle.skeletons.specs.Lists.{IsRank}
use Rattle.skel_embed.specs.Block.{BlockState}
use Rattle.skel_embed.specs.Values.{as_moves}
use Rattle.embed_enum.specs.Walk.{IsAtRank, IsAfter}
use Rattle.spqr_session.specs.Trees.{BlockTree}
use Rattle.spqr_session.specs.State.{Embedding, State}
use Rattle.spqr_session.specs.Embedded.{BlockView, view_tree, view_entry, view_at}
use Rattle.spqr_session.specs.Scene.{setting_on}
use Rattle.spqr_session.specs.declared.scene.Scene.{Scene}
use Rattle.spqr_session.specs.Board.{BoardView, state_on, BelongTogether}
use Rattle.spqr_session.specs.Codes.{Ladder, first_code}
use Rattle.spqr_session.specs.BlockCodes.{planar_codes, block_ladder, entry_codes, of_entry}
use Rattle.spqr_session.specs.Members.{is_over, StandsAt, StandsBehind, StandsLast}
use Rattle.spqr_session.specs.Products.{member_count, product_rank_codes}
use Rattle.spqr_session.specs.Commands.Walk.{NextDoes, NextStep}
use Rattle.spqr_session.specs.PlannedMoves.{AreMovesOf, IsFirstPlan, IsRankPlan, IsStepPlan, IsAtEnd, IsNextPlanAt, CanSettle, AreSettled}
use Rattle.spqr_session.specs.declared.code.Code.{Code}
use Rattle.spqr_session.specs.declared.code.Code.TheVariants.{CountOver, RankOut}
use Rattle.spqr_session.specs.declared.planned_moves.PlannedMoves.{PlannedMoves}
use Rattle.spqr_session.specs.declared.planned_moves.PlannedMoves.TheVariants as way
use Rattle.spqr_session.proofs.Views.{trees-at, entries-at}
use Rattle.spqr_session.proofs.Ladders.{rung-hit, rung-missed, refused-first, carried-out}
use Rattle.spqr_session.proofs.Plans.{verdict-found, changed-seen}
use Rattle.spqr_session.proofs.Planes.{seen_embedding, SeenPlane, same-list, its-list, own-list, not-over, over}
use Rattle.spqr_session.proofs.MoveVerdicts.{planar-missed, entry-own}
use Rattle.spqr_session.proofs.MovesPlanned.{IsMovesPlan, moves-seen, moves-can, made-change}

-- the plan of `next` for a block with this view
abbrev pub IsNextPlan : BlockView → PlannedMoves → Type 0
IsNextPlan v (way.Refused code) = first_code (planar_codes v.entry) ≡ Some code
IsNextPlan v way.End = (first_code (planar_codes v.entry) ≡ None) × IsAtEnd v
IsNextPlan v (way.Make moves) = (first_code (planar_codes v.entry) ≡ None) × AreMovesOf StandsBehind v (as_moves moves)

module _ (v : BlockView) (p : BlockState) (seen : SeenPlane v p) where
  abbrev here : Embedding
  here = seen_embedding p

  none-planar : first_code (planar_codes v.entry) ≡ None
  none-planar = planar-missed v p seen [] None refl

  pub first-plan : (planned : PlannedMoves) → IsFirstPlan p planned → IsMovesPlan (planar_codes v.entry) (StandsAt 0) v planned
  first-plan (way.Refused code) h = absurd h
  first-plan way.End h = absurd h
  first-plan (way.Make moves) h = (none-planar, moves-seen v p seen (IsAtRank p 0) (StandsAt 0) (λ q m. record { rank = λ l a. m l (same-list v p seen l a); locks = refl }) (as_moves moves) h)

  rank-code : (r : ℕ) (o : Option Code) → first_code (product_rank_codes r v.tree here) ≡ o → first_code (entry_codes (product_rank_codes r) v.tree v.entry) ≡ o
  rank-code r o e = planar-missed v p seen (of_entry (product_rank_codes r v.tree) v.entry) o (entry-own v p seen (product_rank_codes r v.tree) o e)

  pub rank-plan : (r : ℕ) (planned : PlannedMoves) → IsRankPlan r p planned → IsMovesPlan (entry_codes (product_rank_codes r) v.tree v.entry) (StandsAt r) v planned
  rank-plan r (way.Refused code) h = by (h (its-list v p seen).list (own-list v p seen))
    where
      n : ℕ
      n = member_count v.tree here

      by : ((code ≡ CountOver) × (2 ^ 128 ≤ length (its-list v p seen).list)) ⊎ ((code ≡ RankOut (length (its-list v p seen).list)) × (length (its-list v p seen).list ≤ r) × (length (its-list v p seen).list < 2 ^ 128))
          → first_code (entry_codes (product_rank_codes r) v.tree v.entry) ≡ Some code
      by (inl a) = rank-code r (Some code) (rung-hit CountOver (is_over (member_count v.tree here)) ((RankOut (member_count v.tree here), not (nat_lt r (member_count v.tree here))) ∷ []) (over v p seen a.1) ∙ ap (λ (c : Code). Some c) (sym a.0))
      by (inr a) =
          let l = its-list v p seen in
          let out : not (nat_lt r (member_count v.tree here)) ≡ true = ap not (false_from_ne_true (nat_lt r (member_count v.tree here)) (λ t. omega (arith, ltb-true r (member_count v.tree here) t, l.counted, a.1))) in
          rank-code r (Some code) (rung-missed CountOver (is_over (member_count v.tree here)) ((RankOut (member_count v.tree here), not (nat_lt r (member_count v.tree here))) ∷ []) (Some code) (not-over v p seen a.2)
          (rung-hit (RankOut (member_count v.tree here)) (not (nat_lt r (member_count v.tree here))) [] out ∙ ap (λ (m : ℕ). Some (RankOut m)) (sym l.counted) ∙ ap (λ (c : Code). Some c) (sym a.0)))
  rank-plan r way.End h = absurd h
  rank-plan r (way.Make moves) h =
      let l = its-list v p seen in
      let at : IsRank l.list h.0.end r = h.0.meets l.list (own-list v p seen) in
      let below = h.1 l.list (own-list v p seen) in
      let in_list : not (nat_lt r (member_count v.tree here)) ≡ false = ap not (lt-ltb r (member_count v.tree here) (omega (arith, at.within, l.counted))) in (
        rank-code r None (rung-missed CountOver (is_over (member_count v.tree here)) ((RankOut (member_count v.tree here), not (nat_lt r (member_count v.tree here))) ∷ []) None (not-over v p seen below)
            (rung-missed (RankOut (member_count v.tree here)) (not (nat_lt r (member_count v.tree here))) [] None in_list refl)),
        moves-seen v p seen (IsAtRank p r) (StandsAt r) (λ q m. record { rank = λ x a. m x (same-list v p seen x a); locks = refl }) (as_moves moves) h.0,
      )

  pub next-plan : (planned : PlannedMoves) → IsStepPlan p planned → IsNextPlan v planned
  next-plan (way.Refused code) h = absurd h
  next-plan way.End h = (none-planar, record { entry = here; present = seen.entry; last = λ l k a x. sym (h l k (same-list v p seen l a) x) })
  next-plan (way.Make moves) h = (none-planar, moves-seen v p seen (IsAfter p) StandsBehind (λ q m. record { next = λ l k a x. m l k (same-list v p seen l a) x; locks = refl }) (as_moves moves) h)

-- ---- next, from the block to the blocks

module _ (views : List BlockView) (b : ℕ) (s : State) (present : s.present.entries ≡ map view_entry views) where
  pub next-found : (v : BlockView) (planned : PlannedMoves) → b < length views → v ≡ view_at views b → IsNextPlan v planned → IsNextPlanAt (block_ladder (map view_tree views) b s) views b planned
  next-found v (way.Refused code) l at q = verdict-found (λ tree entry. planar_codes entry) views b s present v (Some code) l at q
  next-found v way.End l at q = (verdict-found (λ tree entry. planar_codes entry) views b s present v None l at q.0, subst IsAtEnd at q.1)
  next-found v (way.Make moves) l at q =
      (l, verdict-found (λ tree entry. planar_codes entry) views b s present v None l at q.0, subst (λ (x : BlockView). AreMovesOf StandsBehind x (as_moves moves)) at q.1)

-- a plan can be carried out
pub next-can : (ladder : Ladder) (views : List BlockView) (b : ℕ) (planned : PlannedMoves) → IsNextPlanAt ladder views b planned → CanSettle views b planned
next-can ladder views b (way.Refused code) p = tt
next-can ladder views b way.End p = tt
next-can ladder views b (way.Make moves) p = moves-can StandsBehind views b (as_moves moves) p.0 p.2

-- what comes of it is a step
pub next-settled : (scene : Scene) (before : BoardView) → BelongTogether scene before → (b : ℕ) (after : BoardView) (planned : PlannedMoves) (text : List ℕ) → IsNextPlanAt (block_ladder (map view_tree before.views) b (state_on scene before.views before)) before.views b planned → AreSettled b planned before text after
    → NextStep (setting_on scene before.views) b (state_on scene before.views before) text (state_on scene before.views after)
next-settled scene before together b after (way.Refused code) text p q =
    subst (λ (s : State). NextStep (setting_on scene before.views) b (state_on scene before.views before) text s) (sym (ap (state_on scene before.views) q.1))
    (refused-first (block_ladder (map view_tree before.views) b (state_on scene before.views before)) refl (NextDoes (setting_on scene before.views) b) (state_on scene before.views before) code text p q.0)
next-settled scene before together b after way.End text p q =
    subst (λ (s : State). NextStep (setting_on scene before.views) b (state_on scene before.views before) text s) (sym (ap (state_on scene before.views) q.1))
    (carried-out (block_ladder (map view_tree before.views) b (state_on scene before.views before)) refl (NextDoes (setting_on scene before.views) b) (state_on scene before.views before) text (state_on scene before.views before) p.0 (inl (record {
      embedding = p.1.entry;
      present = entries-at before.views b ∙ p.1.present;
      answer = (subst (λ (t : BlockTree). StandsLast t p.1.entry) (sym (trees-at before.views b)) p.1.last, q.0);
      stays = refl;
    })))
next-settled scene before together b after (way.Make moves) text p q =
    let m = q.1 in
    let new : Embedding = record { rotation = m.rotation; locks = m.old.locks } in
    carried-out (block_ladder (map view_tree before.views) b (state_on scene before.views before)) refl (NextDoes (setting_on scene before.views) b) (state_on scene before.views before) text (state_on scene before.views after) p.1 (inr (record {
      old = m.old;
      present = entries-at before.views b ∙ m.stands.entry;
      new = new;
      change = (subst (λ (t : BlockTree). StandsBehind t m.old new) (sym (trees-at before.views b)) (made-change StandsBehind before after b (as_moves moves) p.2 m), q.0);
      after_is = changed-seen scene before together b m.old m.stands new after m.changed;
    }))
