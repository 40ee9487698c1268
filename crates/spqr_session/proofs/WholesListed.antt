-- The lines of the members of a component's list that a walk passes.
use Rattle.std.proofs.Common.{◌≡◌, ℕ, ◌+◌, Bool, nat_lt, if◌then◌else◌, List, ◌++◌, length, take, drop, Some, None, refl, sym, ap, ◌∙◌, subst, arith, append-nil, append_assoc}
use Rattle.skeletons.specs.Lists.{IsRank}
use Rattle.whole_embed.specs.declared.members.Member.{Member}
use Rattle.whole_embed.specs.Component.{Component}
use Rattle.whole_embed.specs.Cuts.{CutState, blocks_in}
use Rattle.whole_embed.specs.Whole.{whole_lists, IsWholeList}
use Rattle.whole_embed.specs.Walk.{system_lists}
use Rattle.whole_embed.proofs.Assembly.{lists-of_system}
use Rattle.spqr_script.specs.Answers.Change.{end_text}
use Rattle.spqr_script.specs.Answers.List.{more_text}
use Rattle.spqr_script.specs.Answers.Whole.{whole_text, list_whole_text}
use Rattle.spqr_session.specs.Setting.{Setting}
use Rattle.spqr_session.specs.State.{Family, State}
use Rattle.spqr_session.specs.Codes.{code_text, first_code}
use Rattle.spqr_session.specs.Components.{component_ladder, ReadsComponent}
use Rattle.spqr_session.specs.Commands.ListWhole.{whole_members_text, IsWholeListing, ListWholeStep}
use Rattle.spqr_session.specs.WholeSteps.{system_now, IsListNow, AreTogether, system_texts, IsListTold}
use Rattle.spqr_session.specs.declared.code.Code.{Code}
use Rattle.spqr_session.proofs.MemberLines.{lines-more}
use Rattle.spqr_session.proofs.Ladders.{refused-first, carried-out}
use Rattle.spqr_session.proofs.ComponentCarried.{component-rises}
use Rattle.spqr_session.proofs.WholesWalked.{IsPresent, list-now}

-- after t steps of a walk
pub record AreListed (c : ℕ) (old : CutState) (old_all : List Member) (out : List ℕ) (now : CutState) (now_all : List Member) (now_out : List ℕ) (t : ℕ) : Type 0 where
  pub together : AreTogether now now_all
  pub component : now.component ≡ old.component
  pub passed : (l : List (List (List ℕ))) (i : ℕ) → IsListNow old old_all l i → IsListNow now now_all l (i + t) × (now_out ≡ out ++ system_texts c old.component (take t (drop (i + 1) l)))

pub listed-begins : (c : ℕ) (old : CutState) (old_all : List Member) (out : List ℕ) → AreTogether old old_all → AreListed c old old_all out old old_all out 0
listed-begins c old old_all out h = record { together = h; component = refl; passed = λ l i a. (subst (IsListNow old old_all l) (let e : i ≡ i + 0 = omega arith in e) a, sym (append-nil out)) }

-- after one more step
pub listed-more : (c : ℕ) (old : CutState) (old_all : List Member) (out : List ℕ) (now new : CutState) (now_all new_all : List Member) (now_out new_out : List ℕ) (lists : List (ℕ × List ℕ)) (t : ℕ) → AreListed c old old_all out now now_all now_out t
    → new.component ≡ now.component → AreTogether new new_all → ((l : List (List (List ℕ))) → IsWholeList now.component (blocks_in now_all) l → IsWholeList new.component (blocks_in new_all) l)
    → ((l : List (List (List ℕ))) (i : ℕ) → IsWholeList now.component (blocks_in now_all) l → IsRank l (system_now now now_all) i → IsRank l (system_now new new_all) (i + 1))
    → lists ≡ whole_lists new.component (blocks_in new_all) new.lists → new_out ≡ now_out ++ whole_text c lists → AreListed c old old_all out new new_all new_out (t + 1)
listed-more c old old_all out now new now_all new_all now_out new_out lists t h same right list next told line = record {
  together = right;
  component = same ∙ h.component;
  passed = λ l i a.
      let w = h.passed l i a in
      let n : i + t + 1 ≡ i + (t + 1) = omega arith in
      let r : IsRank l (system_now new new_all) (i + (t + 1)) = subst (IsRank l (system_now new new_all)) n (next l (i + t) w.0.list w.0.rank) in
      let text : lists ≡ system_lists old.component (system_now new new_all) = told ∙ lists-of_system new.component (blocks_in new_all) new.lists right.in_plane right.arranged ∙ ap (λ (z : Component). system_lists z (system_now new new_all)) (same ∙ h.component) in (
        record { list = list l w.0.list; rank = r },
        lines-more l i (λ q. whole_text c (system_lists old.component q)) t (system_now new new_all) out now_out new_out r w.1 (line ∙ ap (λ (z : List (ℕ × List ℕ)). now_out ++ whole_text c z) text),
      );
}

-- the text, once the number of lines is known
pub members-told : (c n t : ℕ) (k : Component) (ahead : List (List (List ℕ))) (more : Bool) (last head lines rest text : List ℕ) → t ≡ length (take n ahead) → more ≡ nat_lt n (length ahead) → last ≡ (if more then more_text else end_text)
    → head ≡ list_whole_text c n → lines ≡ head ++ system_texts c k (take n ahead) → rest ≡ lines ++ last → ((tail : List ℕ) → rest ≡ list_whole_text c n ++ tail → text ≡ list_whole_text c t ++ tail) → text ≡ whole_members_text c n k ahead
members-told c n t k ahead more last head lines rest text count follows end first second third changed =
    let members = system_texts c k (take n ahead) in
    let whole : rest ≡ list_whole_text c n ++ (members ++ last) = third ∙ ap (λ (x : List ℕ). x ++ last) (second ∙ ap (λ (x : List ℕ). x ++ members) first) ∙ append_assoc (list_whole_text c n) members last in
    changed (members ++ last) whole ∙ ap (λ (y : ℕ). list_whole_text c y ++ (members ++ last)) count ∙ sym (append_assoc (list_whole_text c (length (take n ahead))) members last)
    ∙ ap (λ (x : List ℕ). list_whole_text c (length (take n ahead)) ++ members ++ x) (end ∙ ap (λ (x : Bool). if x then more_text else end_text) follows)

-- these are the lines of the list of the family
pub list-told : (setting : Setting) (c n : ℕ) (family : Family) (cuts : CutState) (all : List Member) (is : IsPresent setting c family cuts all) (text : List ℕ)
    → ((l : List (List (List ℕ))) (i : ℕ) → IsListNow cuts all l i → text ≡ whole_members_text c n cuts.component (drop (i + 1) l)) → IsListTold setting c n family text
list-told setting c n family cuts all is text h = record {
  lists = cuts.lists;
  present = is.present;
  answer = λ l i a r. h l i (list-now setting c family cuts all is l i a r) ∙ ap (λ (k : Component). whole_members_text c n k (drop (i + 1) l)) is.component;
}

module _ (setting : Setting) (c n : ℕ) (s : State) where
  -- the line of a code is the answer
  pub list-refused : (code : Code) (text : List ℕ) → first_code (component_ladder setting c) ≡ Some code → text ≡ code_text code → ListWholeStep setting c n s text s
  list-refused code text e line = refused-first (component_ladder setting c) (component-rises setting c) (ReadsComponent c (IsWholeListing setting c n s.present)) s code text e line

  -- and else the lines of the members
  pub list-done : (text : List ℕ) → first_code (component_ladder setting c) ≡ None → IsListTold setting c n s.present text → ListWholeStep setting c n s text s
  list-done text e h = carried-out (component_ladder setting c) (component-rises setting c) (ReadsComponent c (IsWholeListing setting c n s.present)) s text s e (record { lists = h.lists; present = h.present; answer = h.answer; stays = refl })
