-- What a session's call says of a step.
use Rattle.std.proofs.Common.{◌≡◌, ℕ, List, Result, Ok, Err, IfOk, sym, subst}
use Rattle.std.specs.Global.{Vec}
use Rattle.spqr_script.specs.declared.command.Command.{Command}
use Rattle.spqr_session.specs.Setting.{Setting}
use Rattle.spqr_session.specs.State.{State}
use Rattle.spqr_session.specs.Step.{Step}

-- what holds of a text holds as far as it implies
pub text-map : {E : Type 0} (r : Result (Vec ℕ) E) (P Q : List ℕ → Type 0) → ((text : List ℕ) → P text → Q text) → IfOk r (λ text. P text.items) → IfOk r (λ text. Q text.items)
text-map (Ok v) P Q f p = f v.items p
text-map (Err e) P Q f p = tt

-- a step of an equal setting, with an equal text
pub step-along : (setting from : Setting) (before after : State) (command : Command) (text given : List ℕ) → from ≡ setting → text ≡ given → Step from before command given after → Step setting before command text after
step-along setting from before after command text given e f s = subst (λ (t : List ℕ). Step setting before command t after) (sym f) (subst (λ (x : Setting). Step x before command given after) e s)

-- a command's step on what a setting has is one of the machine
pub step-of : {E X : Type 0} (setting : Setting) (before after : State) (command given : Command) (own other : X) (P : X → List ℕ → Type 0) (r : Result (Vec ℕ) E) → command ≡ given → own ≡ other
    → ((text : List ℕ) → P own text → Step setting before given text after) → IfOk r (λ text. P other text.items) → IfOk r (λ text. Step setting before command text.items after)
step-of {E = E} {X = X} setting before after command given own other P r is same f h =
    subst (λ (x : Command). IfOk r (λ text. Step setting before x text.items after)) (sym is)
    (text-map r (P own) (λ text. Step setting before given text after) f (subst (λ (x : X). IfOk r (λ text. P x text.items)) (sym same) h))

-- a step of a command is one of its value
pub step-is : {E : Type 0} (setting : Setting) (before after : State) (command given : Command) (r : Result (Vec ℕ) E) → command ≡ given → IfOk r (λ text. Step setting before given text.items after) → IfOk r (λ text. Step setting before command text.items after)
step-is {E = E} setting before after command given r is h = subst (λ (x : Command). IfOk r (λ text. Step setting before x text.items after)) (sym is) h

-- what holds of a value holds as far as it implies
pub ok-map : {X E : Type 0} (r : Result X E) (P Q : X → Type 0) → ((x : X) → P x → Q x) → IfOk r P → IfOk r Q
ok-map (Ok x) P Q f p = f x p
ok-map (Err e) P Q f p = tt

-- so does what two facts imply together
pub ok-both : {X E : Type 0} (r : Result X E) (P Q R : X → Type 0) → ((x : X) → P x → Q x → R x) → IfOk r P → IfOk r Q → IfOk r R
ok-both (Ok x) P Q R f p q = f x p q
ok-both (Err e) P Q R f p q = tt
