-- Walks along changes that can be taken back: one step ahead, one step back, and a change more.
use Rattle.std.proofs.Common.{◌≡◌, List, [], ◌∷◌, sym, ap, ◌∙◌, subst}
use Rattle.spqr_session.specs.History.{walk, Returns, IsBetween}

module _ {S F : Type 0} (forth back : S → F → F) where
  -- where the way ahead is taken back, a step ahead can be taken back, and all behind it
  step-returns : (move other : S → F → F) (f : F) (s : S) (behind ahead : List S) → Returns move other f (s ∷ ahead) → Returns other move f behind → Returns other move (move s f) (s ∷ behind)
  step-returns move other f s behind ahead r h = (ap (move s) r.0, subst (λ (z : F). Returns other move z behind) (sym r.0) h)

  -- a step back
  pub step-back : (f : F) (s : S) (before after : List S) → IsBetween forth back (s ∷ before) f after → IsBetween forth back before (back s f) (s ∷ after)
  step-back f s before after h = record { before_returns = h.before_returns.1; after_returns = step-returns back forth f s after before h.before_returns h.after_returns }

  -- a step forth
  pub step-forth : (f : F) (s : S) (before after : List S) → IsBetween forth back before f (s ∷ after) → IsBetween forth back (s ∷ before) (forth s f) after
  step-forth f s before after h = record { before_returns = step-returns forth back f s before after h.after_returns h.before_returns; after_returns = h.after_returns.1 }

  -- a change from f to another one, with nothing behind it any more
  pub step-new : (f new : F) (s : S) (before after : List S) → IsBetween forth back before f after → back s new ≡ f → forth s f ≡ new → IsBetween forth back (s ∷ before) new []
  step-new f new s before after h b e = record { before_returns = (ap (forth s) b ∙ e, subst (λ (z : F). Returns back forth z before) (sym b) h.before_returns); after_returns = tt }

  pub walk-new : (f new : F) (s : S) (before : List S) → back s new ≡ f → walk back new (s ∷ before) ≡ f ∷ walk back f before
  walk-new f new s before b = ap (λ (z : F). z ∷ walk back z before) b
