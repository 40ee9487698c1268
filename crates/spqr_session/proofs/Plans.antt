-- Plans of commands that change a block: how they are found, and what comes of them.
use Rattle.std.proofs.Common.{◌≡◌, ℕ, ◌<◌, true, not, List, [], ◌∷◌, length, map, slice_index_or, slice_set, Option, None, Some, Result, Ok, Err, IfOk, OnErr, refl, sym, ap, ◌∙◌, subst, arith}
use Rattle.std.specs.Global.{Vec}
use Rattle.std.proofs.lemmas.List.{length-map}
use Rattle.spqr_script.specs.Answers.Change.{ok_text}
use Rattle.faces.specs.Euler.{IsPlaneSystem}
use Rattle.spqr_session.specs.Trees.{BlockTree, tree_at}
use Rattle.spqr_session.specs.Setting.{Setting}
use Rattle.spqr_session.specs.Scene.{setting_on}
use Rattle.spqr_session.specs.declared.scene.Scene.{Scene}
use Rattle.spqr_session.specs.State.{Embedding, State, entry_at}
use Rattle.spqr_session.specs.Kept.{Kept, family_of}
use Rattle.spqr_session.specs.Embedded.{BlockView, view_tree, view_entry, view_at}
use Rattle.spqr_session.specs.History.{lists_cleared}
use Rattle.spqr_session.specs.Board.{BoardView, board_state, kept_with_entry, kept_changed, GoesTo, IsChangedTo, IsCarried, StandsAt, state_on, BelongTogether}
use Rattle.spqr_session.specs.Codes.{Ladder, rises_above, first_code}
use Rattle.spqr_session.specs.BlockCodes.{is_block, ChangesBlock, with_family, with_entry, changed, Silently, ChangeStep}
use Rattle.spqr_session.specs.Planned.{embedding_of, IsChangeOf, IsPlanAt, MayStand, IsSettled}
use Rattle.spqr_session.proofs.BlockPlans.{IsPlan}
use Rattle.spqr_session.specs.declared.code.Code.{Code}
use Rattle.spqr_session.specs.declared.code.Code.TheVariants.{NoBlock}
use Rattle.spqr_session.specs.declared.planned.Planned.{Planned}
use Rattle.spqr_session.specs.declared.planned.Planned.TheVariants.{Refused, Change}
use Rattle.spqr_session.proofs.Views.{trees-at, entries-at}
use Rattle.spqr_session.proofs.Ladders.{rung-missed, refused-first, carried-out}
use Rattle.spqr_session.proofs.BlockCarried.{block-in}
use Rattle.spqr_session.proofs.Changes.{entry-right}
use Rattle.spqr_session.proofs.KeptFamilies.{family-of_changed, family-of_put}

-- ---- from the block to the blocks

-- the tree and the entry of a block in a state of these blocks
pub present-at : (views : List BlockView) (s : State) (b : ℕ) → s.present.entries ≡ map view_entry views → entry_at s.present b ≡ (view_at views b).entry
present-at views s b e = ap (λ (es : List (Option Embedding)). slice_index_or es b None) e ∙ entries-at views b

-- a state with the entries that a board has: what is said of the blocks depends on these alone
abbrev pub seen_state : BoardView → State
seen_state board = record { present = record { entries = map view_entry board.views; arrangements = [] }; earlier = []; later = [] }

-- the codes of the block that is found at its place
module _ (codes : BlockTree → Option Embedding → Ladder) (views : List BlockView) (b : ℕ) (s : State) (present : s.present.entries ≡ map view_entry views) where
  abbrev pub whole : Ladder
  whole = (NoBlock, not (is_block (map view_tree views) b)) ∷ codes (tree_at (map view_tree views) b) (entry_at s.present b)

  pub verdict-found : (v : BlockView) (o : Option Code) → b < length views → v ≡ view_at views b → first_code (codes v.tree v.entry) ≡ o → first_code whole ≡ o
  verdict-found v o l at e =
      rung-missed NoBlock (not (is_block (map view_tree views) b)) (codes (tree_at (map view_tree views) b) (entry_at s.present b)) o
      (block-in (map view_tree views) b (let m : b < length (map view_tree views) = omega (arith, l, length-map views view_tree) in m))
      (ap (λ (t : BlockTree). first_code (codes t (entry_at s.present b))) (trees-at views b) ∙ ap (λ (x : Option Embedding). first_code (codes (view_at views b).tree x)) (present-at views s b present)
      ∙ ap (λ (x : BlockView). first_code (codes x.tree x.entry)) (sym at) ∙ e)

module _ (codes : BlockTree → Option Embedding → Ladder) (IsChange : BlockTree → Embedding → Embedding → Type 0) (views : List BlockView) (b : ℕ) (s : State) (present : s.present.entries ≡ map view_entry views) where
  -- the plan of the block that is found at its place
  pub plan-found : (v : BlockView) (planned : Planned) → b < length views → v ≡ view_at views b → IsPlan (codes v.tree v.entry) IsChange v planned → IsPlanAt (whole codes views b s present) IsChange views b planned
  plan-found v (Refused code) l at q = verdict-found codes views b s present v (Some code) l at q
  plan-found v (Change x) l at q = (l, verdict-found codes views b s present v None l at q.0, subst (λ (y : BlockView). IsChangeOf IsChange y x) at q.1)

-- ---- what comes of a plan

-- a plan may be put on the board
pub plan-stands : (ladder : Ladder) (IsChange : BlockTree → Embedding → Embedding → Type 0) (views : List BlockView) (b : ℕ) (planned : Planned) → IsPlanAt ladder IsChange views b planned → MayStand views b planned
plan-stands ladder IsChange views b (Refused code) p = tt
plan-stands ladder IsChange views b (Change x) p = (p.0, p.2.0)

-- what a board goes on to is the present family, and the one that was present is the nearest earlier one
pub goes-seen : (setting : Setting) (before after : BoardView) (kept : Kept) → GoesTo before kept after → board_state setting after ≡ with_family (board_state setting before) (family_of setting kept)
goes-seen setting before after kept g = λ i. record { present = family_of setting (g.present i); earlier = map (family_of setting) (g.earlier i); later = map (family_of setting) (g.later i) }

module _ (scene : Scene) (before : BoardView) (together : BelongTogether scene before) (b : ℕ) (old : Embedding) (stands : StandsAt before.views b old) where
  -- the block is there, with this entry, which is a right one
  there : b < length (map view_tree before.views)
  there = omega (arith, stands.within, length-map before.views view_tree)

  within : b < length (map view_entry before.views)
  within = omega (arith, stands.within, length-map before.views view_entry)

  at : slice_index_or (map view_entry before.views) b None ≡ Some old
  at = entries-at before.views b ∙ stands.entry

  old-plane : IsPlaneSystem (tree_at (map view_tree before.views) b).part.graph old.rotation
  old-plane = (entry-right (setting_on scene before.views) (state_on scene before.views before) b old together.state there at).0

  -- a change of a block is one of the state
  pub changed-seen : (new : Embedding) (after : BoardView) → IsChangedTo before b new after → state_on scene before.views after ≡ changed (setting_on scene before.views) (state_on scene before.views before) b new
  changed-seen new after c =
      let setting = setting_on scene before.views in
      let plane : IsPlaneSystem (tree_at (map view_tree before.views) b).part.graph new.rotation = subst (λ (t : BlockTree). IsPlaneSystem t.part.graph new.rotation) (sym (trees-at before.views b)) c.plane in
      goes-seen setting before after (kept_changed before.views before.lists b new) c.goes
      ∙ ap (λ (t : BlockTree). with_family (state_on scene before.views before) (family_of setting (record { entries = slice_set (map view_entry before.views) b (Some new); lists = lists_cleared t.part.vertices before.lists }))) (sym (trees-at before.views b))
      ∙ ap (with_family (state_on scene before.views before)) (family-of_changed setting together.setting b old new (map view_entry before.views) there within at old-plane plane before.lists)

  -- and so is a lock
  pub lock-seen : (new : Embedding) (after : BoardView) → new.rotation ≡ old.rotation → GoesTo before (kept_with_entry before.views before.lists b new) after → state_on scene before.views after ≡ with_entry (state_on scene before.views before) b new
  lock-seen new after rotation g =
      let setting = setting_on scene before.views in
      goes-seen setting before after (kept_with_entry before.views before.lists b new) g
      ∙ ap (with_family (state_on scene before.views before)) (family-of_put setting together.setting b old new (map view_entry before.views) there within at rotation before.lists)

pub nothing-carried : (views : List BlockView) → IsCarried views views
nothing-carried views = record { trees = refl; certificates = refl }

module _ (scene : Scene) (before : BoardView) (together : BelongTogether scene before) (ladder : Ladder) (r : rises_above 0 ladder ≡ true) (IsChange : BlockTree → Embedding → Embedding → Type 0) (b : ℕ) (after : BoardView) where
  abbrev on : Setting
  on = setting_on scene before.views

  abbrev state : State
  state = state_on scene before.views before

  -- a change of the board is a step, where no code applies
  pub changed-step : (old new : Embedding) → StandsAt before.views b old → IsChange (view_at before.views b).tree old new → IsChangedTo before b new after → (text : List ℕ) → text ≡ ok_text → first_code ladder ≡ None
      → ChangeStep ladder (Silently IsChange) (setting_on scene before.views) b (state_on scene before.views before) text (state_on scene before.views after)
  changed-step old new stands is c text t none =
      carried-out ladder r (ChangesBlock on b (Silently IsChange)) state text (state_on scene before.views after) none (record {
        old = old;
        present = entries-at before.views b ∙ stands.entry;
        new = new;
        change = (subst (λ (x : BlockTree). IsChange x old new) (sym (trees-at before.views b)) is, t);
        after_is = changed-seen scene before together b old stands new after c;
      })

  -- what a settled plan does is a step
  pub settled-step : (planned : Planned) (text : List ℕ) → IsPlanAt ladder IsChange before.views b planned → IsSettled b planned before text after
      → ChangeStep ladder (Silently IsChange) (setting_on scene before.views) b (state_on scene before.views before) text (state_on scene before.views after)
  settled-step (Refused code) text p q =
      subst (λ (s : State). ChangeStep ladder (Silently IsChange) on b state text s) (sym (ap (state_on scene before.views) q.1)) (refused-first ladder r (ChangesBlock on b (Silently IsChange)) state code text p q.0)
  settled-step (Change x) text p q = changed-step p.2.0.old (embedding_of x) (record { within = p.0; entry = p.2.0.present }) p.2.1 q.1 text q.0 p.1

-- trees and certificates stay
pub settled-carried : (b : ℕ) (planned : Planned) (before after : BoardView) (text : List ℕ) → IsSettled b planned before text after → IsCarried before.views after.views
settled-carried b (Refused code) before after text q = subst (λ (x : BoardView). IsCarried before.views x.views) (sym q.1) (nothing-carried before.views)
settled-carried b (Change x) before after text q = q.1.goes.carried

-- they do, whether memory sufficed or not
pub either-carried : {E : Type 0} (r : Result (Vec ℕ) E) (b : ℕ) (planned : Planned) (before after : BoardView) → IfOk r (λ text. IsSettled b planned before text.items after) → OnErr r (after ≡ before) → IsCarried before.views after.views
either-carried (Ok text) b planned before after h e = settled-carried b planned before after text.items h
either-carried (Err x) b planned before after h e = subst (λ (y : BoardView). IsCarried before.views y.views) (sym e) (nothing-carried before.views)
