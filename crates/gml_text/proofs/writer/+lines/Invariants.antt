-- What is written, and the lines of the pairs that are left, are those of all. Inner lists have fewer pairs.
use Rattle.std.proofs.Common.{◌≡◌, ◌+◌, ◌*◌, ◌++◌, drop}
use Rattle.gml_text.specs.Document.{empty, pair_count}
use Rattle.gml_text.specs.Pairs.{document_of, pair_before}
use Rattle.gml_text.specs.Layout.{lines}
use Rattle.gml_text.proofs.writer.+lines.Given as goal

abbrev pub decreases-push_pair : goal.decreases-push_pair
decreases-push_pair l = 2 * pair_count (pair_before l.pair.now.key l.pair.now.value empty)

abbrev pub decreases-write_pairs : goal.decreases-write_pairs
decreases-write_pairs l = 2 * pair_count l.pairs.now + 1

abbrev pub invariant-write_pairs-loop-pair : goal.invariant-write_pairs-loop-pair
invariant-write_pairs-loop-pair l =
    record {
      all : document_of l.pair-items ≡ l.pairs;
      wrote : l.out.items ++ lines l.lists (document_of (drop l.pair-index l.pair-items)) ≡ l.fn.out.items ++ lines l.lists l.pairs;
    }
