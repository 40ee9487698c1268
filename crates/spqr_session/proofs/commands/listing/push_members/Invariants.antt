use Rattle.std.proofs.Common.{◌≡◌, ℕ, ◌+◌, List, ◌++◌, map, take, drop, IfSome}
use Rattle.std.specs.List.{concat}
use Rattle.skeletons.specs.Lists.{IsRank}
use Rattle.embed_enum.specs.Walk.{IsMemberList}
use Rattle.spqr_script.specs.Answers.Rotation.{rotation_text}
use Rattle.spqr_session.specs.KeptLine.{IsKept}
use Rattle.spqr_session.proofs.commands.listing.push_members.Given as goal

abbrev pub invariant-loop-turn : goal.invariant-loop-turn
invariant-loop-turn l = ((l.walker.graph ≡ l.part.graph) × IfSome l.kept (λ line. (q : List (List ℕ)) × IsKept l.part l.b q line.line.items line.places.items line.followers.items line.changed.items)) × ((list : List (List (List ℕ))) (i : ℕ) → IsMemberList l.initial.walker list → IsRank list l.initial.walker.rotation i
    → IsMemberList l.walker list × IsRank list l.walker.rotation (i + l.turn) × (l.out.items ≡ l.initial.out.items ++ concat (map (rotation_text l.part l.b) (take l.turn (drop (i + 1) list)))))
