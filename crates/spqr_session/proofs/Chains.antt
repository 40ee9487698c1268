-- Steps and chains of steps: there is one from each state, and one only, as far as texts are not left open; they keep to states; chains are joined.
use Rattle.std.proofs.Common.{◌≡◌, ℕ, Bool, true, false, List, [], ◌∷◌, ◌++◌, refl, sym, ap, ◌∙◌, subst, append_assoc}
use Rattle.std.specs.List.{concat}
use Rattle.std.proofs.lemmas.Bool.{true≢false}
use Rattle.std.proofs.lemmas.List.Elements.{All-head, All-tail}
use Rattle.std.proofs.lemmas.List.Folds.{concat-append}
use Rattle.faces.specs.Trace.{face_lists}
use Rattle.spqr_script.specs.Answers.Rotation.{rotation_text}
use Rattle.spqr_script.specs.Answers.Faces.{faces_text}
use Rattle.spqr_script.specs.declared.command.Command.{Command}
use Rattle.spqr_script.specs.declared.command.Command.TheVariants as command
use Rattle.spqr_session.specs.Trees.{tree_at}
use Rattle.spqr_session.specs.Setting.{Setting, IsSetting}
use Rattle.spqr_session.specs.State.{State, IsState}
use Rattle.spqr_session.specs.Step.{Step, IsChain}
use Rattle.spqr_session.specs.Open.{leaves_open, may_lack_answer, NoneOpen, AllAnswered, AgreeOnTexts}
use Rattle.spqr_session.specs.BlockCodes.{no_more}
use Rattle.spqr_session.specs.Commands.Show.{IsShown}
use Rattle.spqr_session.specs.Commands.Faces.{IsFaced}
use Rattle.spqr_session.specs.Head.{head_text}
use Rattle.spqr_session.specs.Report.{IsReport}
use Rattle.spqr_session.proofs.EulerCarried.{euler-answers, euler-one, euler-stays}
use Rattle.spqr_session.proofs.GmlCarried.{gml_text, gml-done, gml-one, gml-stays}
use Rattle.spqr_session.proofs.BlockCarried.{read-answers, read-one, read-stays}
use Rattle.spqr_session.proofs.OneStart.{start-one}
use Rattle.spqr_session.proofs.MovesCarried.{flip-answers, flip-one, flip-keeps, permute-answers, permute-one, permute-keeps, mirror-answers, mirror-one, mirror-keeps, lock-answers, lock-one, lock-keeps}
use Rattle.spqr_session.proofs.HistoryCarried.{undo-answers, undo-one, undo-keeps, redo-answers, redo-one, redo-keeps}
use Rattle.spqr_session.proofs.MembersCarried.{list-answers, list-one, list-keeps, first-answers, first-one, first-keeps, next-answers, next-one, next-keeps}
use Rattle.spqr_session.proofs.ConvertCarried.{convert_to-answers, convert_to-one, convert_to-keeps}
use Rattle.spqr_session.proofs.CountSteps.{count_step-answers, count_step-one, count_step-keeps, rank_step-answers, rank_step-one, rank_step-keeps, goto_step-answers, goto_step-one, goto_step-keeps, convert_step-answers, convert_step-one, convert_step-keeps}
use Rattle.spqr_session.proofs.TakeCarried.{take-answers, take-one, take-keeps}
use Rattle.spqr_session.proofs.LongestCarried.{longest-answers, longest-stays}
use Rattle.spqr_session.proofs.DrawCarried.{draw-answers, draw-stays}
use Rattle.spqr_session.proofs.WholeCarried.{whole-answers, whole-one, whole-keeps}
use Rattle.spqr_session.proofs.RegroupCarried.{regroup-answers, regroup-one, regroup-keeps}
use Rattle.spqr_session.proofs.WholeWalks.{next_whole-answers, next_whole-one, next_whole-keeps, list_whole-answers, list_whole-one, list_whole-keeps}
use Rattle.spqr_session.proofs.WholeConverted.{convert_whole-answers, convert_whole-one, convert_whole-keeps}

-- each command that may not lack an answer has one in each state
pub has-answer : (setting : Setting) (before : State) (command : Command) → IsSetting setting → IsState setting before → may_lack_answer command ≡ false → (text : List ℕ) × (after : State) × Step setting before command text after
has-answer setting before (command.Euler entries) is right sure = euler-answers setting.named.graph entries before
has-answer setting before command.Gml is right sure = (gml_text setting before, before, gml-done setting before (gml_text setting before) refl)
has-answer setting before (command.Show b) is right sure = read-answers no_more (λ tree e. refl) (IsShown b) setting.trees b before (λ l e p n. (rotation_text (tree_at setting.trees b).part b e.rotation, refl))
has-answer setting before (command.Faces b) is right sure = read-answers no_more (λ tree e. refl) (IsFaced b) setting.trees b before (λ l e p n. (faces_text (tree_at setting.trees b).part b (face_lists (tree_at setting.trees b).part.graph e.rotation), refl))
has-answer setting before (command.Flip b k) is right sure = flip-answers setting b k before is right
has-answer setting before (command.Permute b k keys) is right sure = permute-answers setting b k keys before is right
has-answer setting before (command.Mirror b) is right sure = mirror-answers setting b before is right
has-answer setting before (command.Lock b k) is right sure = lock-answers setting true b k before is right
has-answer setting before (command.Unlock b k) is right sure = lock-answers setting false b k before is right
has-answer setting before command.Undo is right sure = undo-answers before
has-answer setting before command.Redo is right sure = redo-answers before
has-answer setting before (command.First b) is right sure = first-answers setting b before is right
has-answer setting before (command.Next b) is right sure = next-answers setting b before is right
has-answer setting before (command.List b n) is right sure = list-answers setting b before is right n
has-answer setting before (command.Count b) is right sure = count_step-answers setting b before is right
has-answer setting before (command.Rank b) is right sure = rank_step-answers setting b before is right
has-answer setting before (command.Longest b) is right sure = longest-answers setting b before is right
has-answer setting before (command.Draw b) is right sure = draw-answers setting b before is right
has-answer setting before (command.Goto b r) is right sure = goto_step-answers setting b before is right r
has-answer setting before (command.ConvertRank b r) is right sure = convert_step-answers setting b before is right r
has-answer setting before (command.ConvertTo b entries) is right sure = convert_to-answers setting b entries before is right
has-answer setting before (command.Take b entries) is right sure = take-answers setting b entries before is right
has-answer setting before (command.Whole c) is right sure = whole-answers setting c before right
has-answer setting before (command.Regroup v edges) is right sure = regroup-answers setting v edges before is right
has-answer setting before (command.NextWhole c) is right sure = next_whole-answers setting c before is right
has-answer setting before (command.ListWhole c n) is right sure = list_whole-answers setting c before is right n
has-answer setting before (command.ConvertWhole c entries) is right sure = convert_whole-answers setting c entries before is right

-- the text of a command that has one, whether it could have several or not
told : {Closed One Same : Type 0} → One × Same → (Closed → One) × Same
told p = (λ closed. p.0, p.1)

-- there is one state after it, and one text where the command leaves none open
pub one-answer : (setting : Setting) (before : State) (command : Command) (s t : List ℕ) (after other : State) → IsSetting setting → IsState setting before
    → Step setting before command s after → Step setting before command t other → (leaves_open command ≡ false → s ≡ t) × (after ≡ other)
one-answer setting before (command.Euler entries) s t after other is right p q = told (euler-one setting.named.graph entries before s t after other p q)
one-answer setting before command.Gml s t after other is right p q = told (gml-one setting before s t after other p q)
one-answer setting before (command.Show b) s t after other is right p q = told (read-one no_more (λ tree e. refl) (IsShown b) setting.trees b before (λ e h t u x y. x ∙ sym y) s t after other p q)
one-answer setting before (command.Faces b) s t after other is right p q = told (read-one no_more (λ tree e. refl) (IsFaced b) setting.trees b before (λ e h t u x y. x ∙ sym y) s t after other p q)
one-answer setting before (command.Flip b k) s t after other is right p q = told (flip-one setting b k before is right s t after other p q)
one-answer setting before (command.Permute b k keys) s t after other is right p q = told (permute-one setting b k keys before is right s t after other p q)
one-answer setting before (command.Mirror b) s t after other is right p q = told (mirror-one setting b before is right s t after other p q)
one-answer setting before (command.Lock b k) s t after other is right p q = told (lock-one setting true b k before is right s t after other p q)
one-answer setting before (command.Unlock b k) s t after other is right p q = told (lock-one setting false b k before is right s t after other p q)
one-answer setting before command.Undo s t after other is right p q = told (undo-one before s t after other p q)
one-answer setting before command.Redo s t after other is right p q = told (redo-one before s t after other p q)
one-answer setting before (command.First b) s t after other is right p q = told (first-one setting b before is right s t after other p q)
one-answer setting before (command.Next b) s t after other is right p q = told (next-one setting b before is right s t after other p q)
one-answer setting before (command.List b n) s t after other is right p q = told (list-one setting b before is right n s t after other p q)
one-answer setting before (command.Count b) s t after other is right p q = told (count_step-one setting b before is right s t after other p q)
one-answer setting before (command.Rank b) s t after other is right p q = told (rank_step-one setting b before is right s t after other p q)
one-answer setting before (command.Longest b) s t after other is right p q = (λ closed. absurd (true≢false closed), longest-stays setting b before s after p ∙ sym (longest-stays setting b before t other q))
one-answer setting before (command.Draw b) s t after other is right p q = (λ closed. absurd (true≢false closed), draw-stays setting b before s after p ∙ sym (draw-stays setting b before t other q))
one-answer setting before (command.Goto b r) s t after other is right p q = told (goto_step-one setting b before is right r s t after other p q)
one-answer setting before (command.ConvertRank b r) s t after other is right p q = told (convert_step-one setting b before is right r s t after other p q)
one-answer setting before (command.ConvertTo b entries) s t after other is right p q = told (convert_to-one setting b entries before is right s t after other p q)
one-answer setting before (command.Take b entries) s t after other is right p q = told (take-one setting b entries before is right s t after other p q)
one-answer setting before (command.Whole c) s t after other is right p q = told (whole-one setting c before right s t after other p q)
one-answer setting before (command.Regroup v edges) s t after other is right p q = told (regroup-one setting v edges before is right s t after other p q)
one-answer setting before (command.NextWhole c) s t after other is right p q = told (next_whole-one setting c before is right s t after other p q)
one-answer setting before (command.ListWhole c n) s t after other is right p q = told (list_whole-one setting c before is right n s t after other p q)
one-answer setting before (command.ConvertWhole c entries) s t after other is right p q = told (convert_whole-one setting c entries before is right s t after other p q)

-- a step leads from a state to a state
pub step-keeps : (setting : Setting) (before : State) (command : Command) (text : List ℕ) (after : State) → IsSetting setting → IsState setting before → Step setting before command text after → IsState setting after
step-keeps setting before (command.Euler entries) text after is right p = subst (IsState setting) (sym (euler-stays setting.named.graph entries before text after p)) right
step-keeps setting before command.Gml text after is right p = subst (IsState setting) (sym (gml-stays setting before text after p)) right
step-keeps setting before (command.Show b) text after is right p = subst (IsState setting) (sym (read-stays no_more (λ tree e. refl) (IsShown b) setting.trees b before text after p)) right
step-keeps setting before (command.Faces b) text after is right p = subst (IsState setting) (sym (read-stays no_more (λ tree e. refl) (IsFaced b) setting.trees b before text after p)) right
step-keeps setting before (command.Flip b k) text after is right p = flip-keeps setting b k before is right text after p
step-keeps setting before (command.Permute b k keys) text after is right p = permute-keeps setting b k keys before is right text after p
step-keeps setting before (command.Mirror b) text after is right p = mirror-keeps setting b before is right text after p
step-keeps setting before (command.Lock b k) text after is right p = lock-keeps setting true b k before is right text after p
step-keeps setting before (command.Unlock b k) text after is right p = lock-keeps setting false b k before is right text after p
step-keeps setting before command.Undo text after is right p = undo-keeps setting before right text after p
step-keeps setting before command.Redo text after is right p = redo-keeps setting before right text after p
step-keeps setting before (command.First b) text after is right p = first-keeps setting b before is right text after p
step-keeps setting before (command.Next b) text after is right p = next-keeps setting b before is right text after p
step-keeps setting before (command.List b n) text after is right p = list-keeps setting b before is right n text after p
step-keeps setting before (command.Count b) text after is right p = count_step-keeps setting b before is right text after p
step-keeps setting before (command.Rank b) text after is right p = rank_step-keeps setting b before is right text after p
step-keeps setting before (command.Longest b) text after is right p = subst (IsState setting) (sym (longest-stays setting b before text after p)) right
step-keeps setting before (command.Draw b) text after is right p = subst (IsState setting) (sym (draw-stays setting b before text after p)) right
step-keeps setting before (command.Goto b r) text after is right p = goto_step-keeps setting b before is right r text after p
step-keeps setting before (command.ConvertRank b r) text after is right p = convert_step-keeps setting b before is right r text after p
step-keeps setting before (command.ConvertTo b entries) text after is right p = convert_to-keeps setting b entries before is right text after p
step-keeps setting before (command.Take b entries) text after is right p = take-keeps setting b entries before is right text after p
step-keeps setting before (command.Whole c) text after is right p = whole-keeps setting c before right text after p
step-keeps setting before (command.Regroup v edges) text after is right p = regroup-keeps setting v edges before is right text after p
step-keeps setting before (command.NextWhole c) text after is right p = next_whole-keeps setting c before is right text after p
step-keeps setting before (command.ListWhole c n) text after is right p = list_whole-keeps setting c before is right n text after p
step-keeps setting before (command.ConvertWhole c entries) text after is right p = convert_whole-keeps setting c entries before is right text after p

-- there is a chain from each state
chain-exists : (setting : Setting) (before : State) (commands : List Command) → IsSetting setting → IsState setting before → AllAnswered commands → (texts : List (List ℕ)) × (last : State) × IsChain setting before commands texts last
chain-exists setting before [] is right sure = ([], before, refl)
chain-exists setting before (command ∷ commands) is right sure =
    let a = has-answer setting before command is right (All-head (λ (c : Command). may_lack_answer c ≡ false) command commands sure) in
    let others = chain-exists setting a.1 commands is (step-keeps setting before command a.0 a.1 is right a.2) (All-tail (λ (c : Command). may_lack_answer c ≡ false) command commands sure) in
    (a.0 ∷ others.0, others.1, (a.1, a.2, others.2))

-- it leads to a state
chain-keeps : (setting : Setting) (before : State) (commands : List Command) (texts : List (List ℕ)) (last : State) → IsSetting setting → IsState setting before → IsChain setting before commands texts last → IsState setting last
chain-keeps setting before [] [] last is right p = subst (IsState setting) (sym p) right
chain-keeps setting before [] (t ∷ ts) last is right p = absurd p
chain-keeps setting before (c ∷ cs) [] last is right p = absurd p
chain-keeps setting before (c ∷ cs) (t ∷ ts) last is right p = chain-keeps setting p.0 cs ts last is (step-keeps setting before c t p.0 is right p.1) p.2

-- a text that is one whether it is left open or not
text-one : (test : Bool) (s t : List ℕ) → (test ≡ true → s ≡ t) → (test ≡ false → s ≡ t) → s ≡ t
text-one true s t a b = a refl
text-one false s t a b = b refl

-- and one only, as far as texts agree that commands leave open
one-chain : (setting : Setting) (before : State) (commands : List Command) (ss ts : List (List ℕ)) (last other : State) → IsSetting setting → IsState setting before → IsChain setting before commands ss last → IsChain setting before commands ts other
    → AgreeOnTexts commands ss ts → (ss ≡ ts) × (last ≡ other)
one-chain setting before [] [] [] last other is right p q a = (refl, p ∙ sym q)
one-chain setting before [] [] (t ∷ ts) last other is right p q a = absurd q
one-chain setting before [] (s ∷ ss) ts last other is right p q a = absurd p
one-chain setting before (c ∷ cs) [] ts last other is right p q a = absurd p
one-chain setting before (c ∷ cs) (s ∷ ss) [] last other is right p q a = absurd q
one-chain setting before (c ∷ cs) (s ∷ ss) (t ∷ ts) last other is right p q a =
    let first = one-answer setting before c s t p.0 q.0 is right p.1 q.1 in
    let text : s ≡ t = text-one (leaves_open c) s t a.0 first.0 in
    let others = one-chain setting p.0 cs ss ts last other is (step-keeps setting before c s p.0 is right p.1) p.2 (subst (λ (x : State). IsChain setting x cs ts other) (sym first.1) q.2) a.1 in
    (ap (λ (x : List ℕ). x ∷ ss) text ∙ ap (λ (xs : List (List ℕ)). t ∷ xs) others.0, others.1)

-- where no command leaves a text open, texts agree on what is left open
none-open : (commands : List Command) (ss ts : List (List ℕ)) → NoneOpen commands → AgreeOnTexts commands ss ts
none-open [] ss ts h = tt
none-open (c ∷ cs) [] ts h = tt
none-open (c ∷ cs) (s ∷ ss) [] h = tt
none-open (c ∷ cs) (s ∷ ss) (t ∷ ts) h = (
  λ o. absurd (true≢false (sym o ∙ All-head (λ (x : Command). leaves_open x ≡ false) c cs h)),
  none-open cs ss ts (All-tail (λ (x : Command). leaves_open x ≡ false) c cs h),
)

-- a chain, and one more from where it ends
pub chain-join : (setting : Setting) (before mid last : State) (cs ds : List Command) (ss ts : List (List ℕ)) → IsChain setting before cs ss mid → IsChain setting mid ds ts last → IsChain setting before (cs ++ ds) (ss ++ ts) last
chain-join setting before mid last [] ds [] ts p q = subst (λ (x : State). IsChain setting x ds ts last) p q
chain-join setting before mid last [] ds (s ∷ ss) ts p q = absurd p
chain-join setting before mid last (c ∷ cs) ds [] ts p q = absurd p
chain-join setting before mid last (c ∷ cs) ds (s ∷ ss) ts p q = (p.0, p.1, chain-join setting p.0 mid last cs ds ss ts p.2 q)

-- there is one report, as far as reports agree on the texts that commands leave open
pub one-report : (setting : Setting) (commands : List Command) (s t : List ℕ) → IsSetting setting → (p : IsReport setting commands s) (q : IsReport setting commands t) → AgreeOnTexts commands p.texts q.texts → s ≡ t
one-report setting commands s t is p q a =
    let from : IsChain setting p.start commands q.texts q.last = subst (λ (x : State). IsChain setting x commands q.texts q.last) (start-one setting q.start p.start is q.starts p.starts) q.answers in
    p.whole ∙ ap (λ (ts : List (List ℕ)). concat (head_text setting ∷ ts)) (one-chain setting p.start commands p.texts q.texts p.last q.last is p.starts.right p.answers from a).0 ∙ sym q.whole

pub one-closed_report : (setting : Setting) (commands : List Command) (s t : List ℕ) → IsSetting setting → NoneOpen commands → IsReport setting commands s → IsReport setting commands t → s ≡ t
one-closed_report setting commands s t is h p q = one-report setting commands s t is p q (none-open commands p.texts q.texts h)

-- a report goes on with the answers of more commands
pub report-goes_on : (setting : Setting) (commands more : List Command) (s : List ℕ) → IsSetting setting → AllAnswered more → IsReport setting commands s → (rest : List ℕ) × IsReport setting (commands ++ more) (s ++ rest)
report-goes_on setting commands more s is sure p =
    let others = chain-exists setting p.last more is (chain-keeps setting p.start commands p.texts p.last is p.starts.right p.answers) sure in
    let rest = concat others.0 in (
      rest,
      record {
        start = p.start;
        last = others.1;
        texts = p.texts ++ others.0;
        starts = p.starts;
        answers = chain-join setting p.start p.last others.1 commands more p.texts others.0 p.answers others.2;
        whole = ap (λ (l : List ℕ). l ++ rest) p.whole ∙ append_assoc (head_text setting) (concat p.texts) rest ∙ ap (λ (l : List ℕ). head_text setting ++ l) (sym (concat-append p.texts others.0));
      },
    )
