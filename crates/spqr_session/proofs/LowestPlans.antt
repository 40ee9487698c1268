-- Plans that are told by the lowest code that applies: what comes of them, with `ok` or with the moves told.
use Rattle.std.proofs.Common.{◌≡◌, ℕ, true, List, Result, Ok, Err, IfOk, OnErr, inl, inr, refl, sym, ap, ◌∙◌, subst}
use Rattle.std.specs.Global.{Vec}
use Rattle.spqr_session.specs.Trees.{BlockTree}
use Rattle.spqr_session.specs.State.{Embedding}
use Rattle.spqr_session.specs.Embedded.{BlockView}
use Rattle.spqr_session.specs.Scene.{setting_on}
use Rattle.spqr_session.specs.declared.scene.Scene.{Scene}
use Rattle.spqr_session.specs.Board.{BoardView, IsCarried, state_on, BelongTogether}
use Rattle.spqr_session.specs.Codes.{Ladder, rises_above, Applies, Carries}
use Rattle.spqr_session.specs.BlockCodes.{ChangesBlock, Silently}
use Rattle.spqr_session.specs.Commands.Convert.{conversion_text, WithMoves}
use Rattle.spqr_session.specs.Planned.{embedding_of, IsPlanAt, IsLowestPlanAt, MayStand, IsSettled, IsConverted}
use Rattle.spqr_session.specs.declared.code.Code.{Code}
use Rattle.spqr_session.specs.declared.planned.Planned.{Planned}
use Rattle.spqr_session.specs.declared.planned.Planned.TheVariants.{Refused, Change}
use Rattle.spqr_session.proofs.Views.{trees-at, entries-at}
use Rattle.spqr_session.proofs.Ladders.{first-lowest, none-first}
use Rattle.spqr_session.proofs.Plans.{changed-seen}

-- a plan told by a ladder is one
pub ladder-lowest : (ladder : Ladder) → rises_above 0 ladder ≡ true → (IsChange : BlockTree → Embedding → Embedding → Type 0) (views : List BlockView) (b : ℕ) (planned : Planned) → IsPlanAt ladder IsChange views b planned → IsLowestPlanAt (Applies ladder) IsChange views b planned
ladder-lowest ladder r IsChange views b (Refused code) p = first-lowest 0 ladder code r p
ladder-lowest ladder r IsChange views b (Change x) p = (p.0, none-first ladder p.1, p.2)

module _ (applies : Code → Type 0) (IsChange : BlockTree → Embedding → Embedding → Type 0) where
  -- it may be put on the board
  pub lowest-stands : (views : List BlockView) (b : ℕ) (planned : Planned) → IsLowestPlanAt applies IsChange views b planned → MayStand views b planned
  lowest-stands views b (Refused code) p = tt
  lowest-stands views b (Change x) p = (p.0, p.2.0)

  module _ (scene : Scene) (before : BoardView) (together : BelongTogether scene before) (b : ℕ) (after : BoardView) where
    -- carried out with `ok`, it is a step
    pub lowest-settled : (planned : Planned) (text : List ℕ) → IsLowestPlanAt applies IsChange before.views b planned → IsSettled b planned before text after
        → Carries applies (ChangesBlock (setting_on scene before.views) b (Silently IsChange)) (state_on scene before.views before) text (state_on scene before.views after)
    lowest-settled (Refused code) text p q = inl (record { code = code; lowest = p; line = q.0; stays = ap (state_on scene before.views) q.1 })
    lowest-settled (Change x) text p q = inr (
      p.1,
      record {
        old = p.2.0.old;
        present = entries-at before.views b ∙ p.2.0.present;
        new = embedding_of x;
        change = (subst (λ (t : BlockTree). IsChange t p.2.0.old (embedding_of x)) (sym (trees-at before.views b)) p.2.1, q.0);
        after_is = changed-seen scene before together b p.2.0.old (record { within = p.0; entry = p.2.0.present }) (embedding_of x) after q.1;
      },
    )

    -- and so it is with the moves told
    pub lowest-converted : (planned : Planned) (text : List ℕ) → IsLowestPlanAt applies IsChange before.views b planned → IsConverted b planned before text after
        → Carries applies (ChangesBlock (setting_on scene before.views) b (WithMoves IsChange)) (state_on scene before.views before) text (state_on scene before.views after)
    lowest-converted (Refused code) text p q = inl (record { code = code; lowest = p; line = q.0; stays = ap (state_on scene before.views) q.1 })
    lowest-converted (Change x) text p q = inr (
      p.1,
      record {
        old = p.2.0.old;
        present = entries-at before.views b ∙ p.2.0.present;
        new = embedding_of x;
        change = (
          subst (λ (t : BlockTree). IsChange t p.2.0.old (embedding_of x)) (sym (trees-at before.views b)) p.2.1,
          q.0 p.2.0.old p.2.0.present ∙ ap (λ (t : BlockTree). conversion_text t p.2.0.old (embedding_of x)) (sym (trees-at before.views b)),
        );
        after_is = changed-seen scene before together b p.2.0.old (record { within = p.0; entry = p.2.0.present }) (embedding_of x) after q.1;
      },
    )

-- trees and certificates stay, whether memory sufficed or not
converted-carried : (b : ℕ) (planned : Planned) (before after : BoardView) (text : List ℕ) → IsConverted b planned before text after → IsCarried before.views after.views
converted-carried b (Refused code) before after text q = subst (λ (x : BoardView). IsCarried before.views x.views) (sym q.1) (record { trees = refl; certificates = refl })
converted-carried b (Change x) before after text q = q.1.goes.carried

pub either-converted : {E : Type 0} (r : Result (Vec ℕ) E) (b : ℕ) (planned : Planned) (before after : BoardView) → IfOk r (λ text. IsConverted b planned before text.items after) → OnErr r (after ≡ before) → IsCarried before.views after.views
either-converted (Ok text) b planned before after h e = converted-carried b planned before after text.items h
either-converted (Err x) b planned before after h e = subst (λ (y : BoardView). IsCarried before.views y.views) (sym e) (record { trees = refl; certificates = refl })
