use Rattle.std.proofs.Common.{◌≡◌, ◌<◌, ℕ, [], length, take, slice_index_or}
use Rattle.arrangements.specs.Arranged.{of_block}
use Rattle.whole_embed.specs.Around.{block_with}
use Rattle.whole_convert.proofs.dealing.deal.Given as goal

abbrev pub invariant-loop-edge : goal.invariant-loop-edge
invariant-loop-edge l = (length l.lists.items ≡ l.count) × ((b : ℕ) → b < l.count → slice_index_or l.lists.items b [] ≡ of_block (block_with l.frame) b (take l.edge-index l.edges))
