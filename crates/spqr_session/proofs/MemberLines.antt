-- The lines of the members that a walk passes, and whether one more follows.
use Rattle.std.proofs.Common.{◌≡◌, ℕ, ◌+◌, ◌<◌, ◌≤◌, Bool, true, false, nat_lt, if◌then◌else◌, List, [], ◌∷◌, ◌++◌, length, map, take, drop, Result, IfOk, inl, inr, refl, sym, ap, ◌∙◌, arith, append_assoc}
use Rattle.std.specs.Global.{Vec}
use Rattle.std.specs.List.{concat}
use Rattle.std.proofs.lemmas.Bool.{cases_Bool, cases_lt, lt-ltb, ltb-true, false_from_ne_true}
use Rattle.std.proofs.lemmas.List.{append-nil, length-drop, length-take-le, map-append, take_all}
use Rattle.std.proofs.lemmas.List.Folds.{concat-append}
use Rattle.multigraph.specs.Part.{GraphPart}
use Rattle.skeletons.specs.Lists.{IsRank}
use Rattle.skel_embed.specs.Block.{BlockState}
use Rattle.embed_enum.specs.Walk.{IsMemberList}
use Rattle.embed_enum.proofs.Places.{follows-more, follows-all}
use Rattle.spqr_script.specs.Answers.Change.{end_text}
use Rattle.spqr_script.specs.Answers.List.{list_text, more_text}
use Rattle.spqr_script.specs.Answers.Rotation.{rotation_text}
use Rattle.spqr_session.specs.Embedded.{BlockView}
use Rattle.spqr_session.specs.BlockCodes.{no_more, TellsBlock}
use Rattle.spqr_session.specs.Commands.Listing.{members_text, IsListing}
use Rattle.spqr_session.proofs.Planes.{SeenPlane, same-list, told-entry}
use Rattle.spqr_session.proofs.Steps.{text-map}

-- ---- one member more

module _ (l : List (List (List ℕ))) (i : ℕ) where
  abbrev ahead : List (List (List ℕ))
  ahead = drop (i + 1) l

  -- as many are passed as there were steps
  pub passed-count : (t : ℕ) (q : List (List ℕ)) → IsRank l q (i + t) → length (take t ahead) ≡ t
  passed-count t q r = let b : i + t < length l = r.within in length-take-le t ahead (omega (arith, b, length-drop (i + 1) l))

  -- at the last member these are all
  pub passed-all : (t n : ℕ) → i + t + 1 ≡ length l → t ≤ n → take t ahead ≡ take n ahead
  passed-all t n e b = follows-all l i t n (take t ahead) refl e b

  -- the line of one more
  pub lines-more : (f : List (List ℕ) → List ℕ) (t : ℕ) (q : List (List ℕ)) (before out after : List ℕ) → IsRank l q (i + (t + 1)) → out ≡ before ++ concat (map f (take t ahead)) → after ≡ out ++ f q → after ≡ before ++ concat (map f (take (t + 1) ahead))
  lines-more f t q before out after r e a =
      let more : take t ahead ++ q ∷ [] ≡ take (t + 1) ahead = follows-more l i t q (take t ahead) (take t ahead ++ q ∷ []) refl r refl in
      let lines : concat (map f (take t ahead ++ q ∷ [])) ≡ concat (map f (take t ahead)) ++ f q =
      ap concat (map-append f (take t ahead) (q ∷ [])) ∙ concat-append (map f (take t ahead)) (f q ∷ []) ∙ ap (λ (x : List ℕ). concat (map f (take t ahead)) ++ x) (append-nil (f q)) in
      a ∙ ap (λ (x : List ℕ). x ++ f q) e ∙ append_assoc before (concat (map f (take t ahead))) (f q) ∙ ap (λ (x : List ℕ). before ++ x) (sym lines)
      ∙ ap (λ (x : List (List (List ℕ))). before ++ concat (map f x)) more

  -- whether there is one behind those passed
  more-follows : (t n : ℕ) → t ≡ length (take n ahead) → i + t + 1 < length l → nat_lt n (length ahead) ≡ true
  more-follows t n c b = elim (cases_lt n (length ahead)) [
    | inl less ↦ lt-ltb n (length ahead) less
    | inr all ↦ absurd (omega (arith, b, c, length-drop (i + 1) l, ap (λ (x : List (List (List ℕ))). length x) (take_all n ahead all)))
  ]

  none-follows : (t n : ℕ) → t ≡ length (take n ahead) → i + t + 1 ≡ length l → nat_lt n (length ahead) ≡ false
  none-follows t n c b = false_from_ne_true (nat_lt n (length ahead)) (λ h. (let less : n < length ahead = ltb-true n (length ahead) h in omega (arith, b, c, less, length-drop (i + 1) l, length-take-le n ahead (omega (arith, less)))))

  pub follows-is : (t n : ℕ) (q : List (List ℕ)) (more : Bool) → t ≡ length (take n ahead) → (more ≡ true → IsRank l q (i + t + 1)) → (more ≡ false → i + t + 1 ≡ length l) → more ≡ nat_lt n (length ahead)
  follows-is t n q more c step stop = elim (cases_Bool more) [
    | inl e ↦ e ∙ sym (more-follows t n c (step e).within)
    | inr e ↦ e ∙ sym (none-follows t n c (stop e))
  ]

-- ---- the whole text

-- the first line, the members and the last line
pub members-whole : (b n t : ℕ) (part : GraphPart) (ahead : List (List (List ℕ))) (more : Bool) (last head lines rest text : List ℕ) → t ≡ length (take n ahead) → more ≡ nat_lt n (length ahead)
    → last ≡ (if more then more_text else end_text) → head ≡ list_text b n → lines ≡ head ++ concat (map (rotation_text part b) (take n ahead)) → rest ≡ lines ++ last
    → ((tail : List ℕ) → rest ≡ list_text b n ++ tail → text ≡ list_text b t ++ tail)
    → text ≡ list_text b (length (take n ahead)) ++ concat (map (rotation_text part b) (take n ahead)) ++ (if nat_lt n (length ahead) then more_text else end_text)
members-whole b n t part ahead more last head lines rest text count follows end first second third changed =
    let members = concat (map (rotation_text part b) (take n ahead)) in
    let whole : rest ≡ list_text b n ++ (members ++ last) = third ∙ ap (λ (x : List ℕ). x ++ last) (second ∙ ap (λ (x : List ℕ). x ++ members) first) ∙ append_assoc (list_text b n) members last in
    changed (members ++ last) whole ∙ ap (λ (k : ℕ). list_text b k ++ (members ++ last)) count ∙ sym (append_assoc (list_text b (length (take n ahead))) members last)
    ∙ ap (λ (x : List ℕ). list_text b (length (take n ahead)) ++ members ++ x) (end ∙ ap (λ (x : Bool). if x then more_text else end_text) follows)

-- what is told of a block that is seen in the plane
pub listing-told : {E : Type 0} (v : BlockView) (p : BlockState) (seen : SeenPlane v p) (b n : ℕ) (part : GraphPart) (r : Result (Vec ℕ) E) → part ≡ v.tree.part
    → IfOk r (λ text. (l : List (List (List ℕ))) (i : ℕ) → IsMemberList p l → IsRank l p.rotation i → text.items ≡ members_text b n (record { part = part; nodes = p.tree }) (drop (i + 1) l))
    → IfOk r (λ text. TellsBlock v.tree v.entry no_more (IsListing b n) text.items)
listing-told {E = E} v p seen b n part r same =
    text-map r (λ text. (l : List (List (List ℕ))) (i : ℕ) → IsMemberList p l → IsRank l p.rotation i → text ≡ members_text b n (record { part = part; nodes = p.tree }) (drop (i + 1) l)) (λ text. TellsBlock v.tree v.entry no_more (IsListing b n) text)
    (λ text h. told-entry v p seen no_more (IsListing b n) text (λ l i a x. h l i (same-list v p seen l a) x ∙ ap (λ (y : GraphPart). members_text b n (record { part = y; nodes = p.tree }) (drop (i + 1) l)) same))
