-- Texts that are written one after another: answers, and reports.
use Rattle.std.proofs.Common.{◌≡◌, ℕ, ◌+◌, ◌<◌, List, [], ◌∷◌, ◌++◌, Option, Result, Ok, Err, inr, refl, length, take, drop, get_or, sym, ap, ◌∙◌, subst, append_assoc, append-nil, add-one, take-append-drop}
use Rattle.std.specs.List.{concat}
use Rattle.std.specs.Io.KnownBytes.{Appends}
use Rattle.std.proofs.KnownBytes.{Appends-trans}
use Rattle.std.proofs.lemmas.List.Folds.{concat-append}
use Rattle.std.proofs.Math.Seq.{take-suc}
use Rattle.spqr_edge.specs.declared.Failed.{Failed}
use Rattle.spqr_script.specs.declared.command.Command.{Command}
use Rattle.spqr_run.specs.declared.halt.Halt.{Halt}
use Rattle.spqr_run.specs.declared.halt.Halt.TheVariants.{Refused, Memory}
use Rattle.spqr_session.specs.Setting.{Setting, IsSetting}
use Rattle.spqr_session.specs.State.{State, IsStart}
use Rattle.spqr_session.specs.Step.{Step, IsChain}
use Rattle.spqr_session.specs.Head.{head_text}
use Rattle.spqr_session.specs.Report.{IsReport}
use Rattle.spqr_run.specs.Front.{AppendsFront}
use Rattle.spqr_run.specs.Writing.{WritesAll, WritesFront, WritesAnswers, AppendsReport, AppendsReportFront, WritesReport}
use Rattle.spqr_session.specs.Open.{AllAnswered}
use Rattle.spqr_session.proofs.Chains.{chain-join, report-goes_on}

-- ---- answers

-- one text behind others
concat-one : (texts : List (List ℕ)) (t : List ℕ) → concat (texts ++ t ∷ []) ≡ concat texts ++ t
concat-one texts t = concat-append texts (t ∷ []) ∙ ap (λ (l : List ℕ). concat texts ++ l) (append-nil t)

module _ (setting : Setting) (start mid after : State) (commands : List Command) (i : ℕ) (command : Command) (t : List ℕ) (before now next : Option (List ℕ)) (within : i < length commands) (at : get_or commands i command ≡ command) where
  -- the chain of one command more
  chain-one_more : (texts : List (List ℕ)) → IsChain setting start (take i commands) texts mid → Step setting mid command t after → IsChain setting start (take (i + 1) commands) (texts ++ t ∷ []) after
  chain-one_more texts chain step =
      let more : take (i + 1) commands ≡ take i commands ++ command ∷ [] = rw add-one (take-suc commands i command within ∙ ap (λ (x : Command). take i commands ++ x ∷ []) at) in
      subst (λ (l : List Command). IsChain setting start l (texts ++ t ∷ []) after) (sym more) (chain-join setting start mid after (take i commands) (command ∷ []) texts (t ∷ []) chain (after, step, refl))

  -- one answer more was written
  pub answers-more : WritesAll setting start (take i commands) before now mid → Step setting mid command t after → Appends now next t → WritesAll setting start (take (i + 1) commands) before next after
  answers-more w step a = record {
    texts = w.texts ++ t ∷ [];
    answers = chain-one_more w.texts w.answers step;
    written = subst (Appends before next) (sym (concat-one w.texts t)) (Appends-trans before now next (concat w.texts) t w.written a);
  }

  -- a prefix of one answer more was written
  pub answers-stopped : WritesAll setting start (take i commands) before now mid → Step setting mid command t after → AppendsFront now next t → (k : ℕ) × WritesFront setting start (take k commands) before next
  answers-stopped w step f = (
    i + 1,
    record {
      last = after;
      texts = w.texts ++ t ∷ [];
      answers = chain-one_more w.texts w.answers step;
      written = record {
        front = concat w.texts ++ f.front;
        rest = f.rest;
        whole = concat-one w.texts t ∙ ap (λ (l : List ℕ). concat w.texts ++ l) f.whole ∙ sym (append_assoc (concat w.texts) f.front f.rest);
        written = Appends-trans before now next (concat w.texts) f.front w.written f.written;
      };
    },
  )

-- ---- reports

module _ (setting : Setting) (start : State) (commands : List Command) (is : IsStart setting start) where
  -- the head and answers are a report
  report-of : (cs : List Command) (texts : List (List ℕ)) (last : State) → IsChain setting start cs texts last → IsReport setting cs (head_text setting ++ concat texts)
  report-of cs texts last chain = record { start = start; last = last; texts = texts; starts = is; answers = chain; whole = refl }

  -- the head was written, and then all answers
  report-all : (cs : List Command) (before mid now : Option (List ℕ)) (last : State) → Appends before mid (head_text setting) → WritesAll setting start cs mid now last → AppendsReport setting cs before now
  report-all cs before mid now last a w = record {
    text = head_text setting ++ concat w.texts;
    report = report-of cs w.texts last w.answers;
    written = Appends-trans before mid now (head_text setting) (concat w.texts) a w.written;
  }

  -- a prefix of the head was written
  pub report-stopped_head : (before now : Option (List ℕ)) → AppendsFront before now (head_text setting) → (k : ℕ) × AppendsReportFront setting (take k commands) before now
  report-stopped_head before now f = (
    0,
    record {
      text = head_text setting ++ concat [];
      report = report-of [] [] start refl;
      written = record {
        front = f.front;
        rest = f.rest ++ concat [];
        whole = ap (λ (l : List ℕ). l ++ concat []) f.whole ∙ append_assoc f.front f.rest (concat []);
        written = f.written;
      };
    },
  )

  -- the head was written, and then a prefix of the first answers
  report-stopped : (k : ℕ) (before mid now : Option (List ℕ)) → Appends before mid (head_text setting) → WritesFront setting start (take k commands) mid now → AppendsReportFront setting (take k commands) before now
  report-stopped k before mid now a w =
      let f = w.written in
      record {
        text = head_text setting ++ concat w.texts;
        report = report-of (take k commands) w.texts w.last w.answers;
        written = record {
          front = head_text setting ++ f.front;
          rest = f.rest;
          whole = ap (λ (l : List ℕ). head_text setting ++ l) f.whole ∙ sym (append_assoc (head_text setting) f.front f.rest);
          written = Appends-trans before mid now (head_text setting) f.front a f.written;
        };
      }

  -- the head was written, and then answers
  pub report-written : {T : Type 0} (before mid now : Option (List ℕ)) (result : Result T (Halt Failed)) → Appends before mid (head_text setting) → WritesAnswers setting start commands mid now result → WritesReport setting commands before now result
  report-written before mid now (Ok _) a w = report-all commands before mid now w.0 a w.1
  report-written before mid now (Err (Refused _)) a w = (w.0, report-stopped w.0 before mid now a w.1)
  report-written before mid now (Err Memory) a w = inr (w.0, report-all (take w.0 commands) before mid now w.1 a w.2)

-- a prefix of a report on the first commands is one of a report on all, where each of the others has an answer
pub front-of_whole : (setting : Setting) (commands : List Command) (count : ℕ) (before now : Option (List ℕ)) → IsSetting setting → AllAnswered (drop count commands) → AppendsReportFront setting (take count commands) before now
    → AppendsReportFront setting commands before now
front-of_whole setting commands count before now is sure w =
    let on = report-goes_on setting (take count commands) (drop count commands) w.text is sure w.report in
    let f = w.written in
    record {
      text = w.text ++ on.0;
      report = subst (λ (cs : List Command). IsReport setting cs (w.text ++ on.0)) (take-append-drop count commands) on.1;
      written = record {
        front = f.front;
        rest = f.rest ++ on.0;
        whole = ap (λ (l : List ℕ). l ++ on.0) f.whole ∙ append_assoc f.front f.rest on.0;
        written = f.written;
      };
    }
