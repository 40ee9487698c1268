use Rattle.std.proofs.Common.{◌≡◌, ◌∙◌, ◌↔◌, ◌&&◌, length, ap, sym, subst, true, Bool}
use Rattle.kuratowski.specs.Subdivision.{pattern_edges, IsSubdivision}
use Rattle.kuratowski.specs.Checking.{no_marks, marked_also, are_free, are_free_paths}
use Rattle.kuratowski.proofs.Checked.{exactly}
use Rattle.kuratowski.proofs.checking.is_subdivision.Goals as goal

-- the tests on marks tell a subdivision
pub returns : goal.returns
returns c =
    let branch = c.as_slice-branch.ensures in
    let paths = c.as_slice-paths.ensures in
    let pairs = c.edges-pairs.ensures in
    let marks = c.deref_mut.ensures.value ∙ c.in_ok-marks.ensures.marks in
    let n = c.if-branch-branch_count.false ∙ c.branch_count.ensures in
    let answer : c.meets_once.result ≡ (are_free (no_marks c.args.g.now) c.args.s.now.branch && are_free_paths c.args.g.now (marked_also (no_marks c.args.g.now) c.args.s.now.branch) c.args.s.now.branch (pattern_edges c.args.s.now.kind) c.args.s.now.paths) =
    c.meets_once.ensures ∙ (λ i. are_free (marks i) (branch i) && are_free_paths c.args.g.now (marked_also (marks i) (branch i)) (branch i) (pairs i) (paths i)) in
    record {
      exact = subst (λ (b : Bool). (b ≡ true) ↔ IsSubdivision c.args.g.now c.args.s.now.kind c.args.s.now.branch c.args.s.now.paths) (sym answer)
          (exactly c.args.g.now c.in_ok-marks.ensures.graph c.args.s.now.kind c.args.s.now.branch c.args.s.now.paths (ap length (sym branch) ∙ n) (ap length (sym paths) ∙ c.if-paths-pairs.false ∙ ap length pairs));
    }
