use Rattle.std.proofs.Common.{sym, ap, ◌∙◌}
use Rattle.spqr_script.specs.Line.{tokens_of}
use Rattle.spqr_script.specs.Reading.{arguments_of}
use Rattle.spqr_script.specs.declared.command.Command.TheVariants as command
use Rattle.spqr_script.proofs.Shapes.{made_as}
use Rattle.spqr_script.proofs.arguments.read_arguments.Goals as goal

pub returns-in-Show : goal.returns-in-Show
returns-in-Show c = made_as command.Show c.block.result c.map.result _ (c.block.ensures command.Show) c.map.ensures.cases ∙ sym (ap (λ w. arguments_of w (tokens_of c.args.text.now)) c.in-Show.is)

pub returns-in-Faces : goal.returns-in-Faces
returns-in-Faces c = made_as command.Faces c.block-in-Faces.result c.map-in-Faces.result _ (c.block-in-Faces.ensures command.Faces) c.map-in-Faces.ensures.cases ∙ sym (ap (λ w. arguments_of w (tokens_of c.args.text.now)) c.in-Faces.is)

pub returns-in-Mirror : goal.returns-in-Mirror
returns-in-Mirror c = made_as command.Mirror c.block-in-Mirror.result c.map-in-Mirror.result _ (c.block-in-Mirror.ensures command.Mirror) c.map-in-Mirror.ensures.cases ∙ sym (ap (λ w. arguments_of w (tokens_of c.args.text.now)) c.in-Mirror.is)

pub returns-in-First : goal.returns-in-First
returns-in-First c = made_as command.First c.block-in-First.result c.map-in-First.result _ (c.block-in-First.ensures command.First) c.map-in-First.ensures.cases ∙ sym (ap (λ w. arguments_of w (tokens_of c.args.text.now)) c.in-First.is)

pub returns-in-Next : goal.returns-in-Next
returns-in-Next c = made_as command.Next c.block-in-Next.result c.map-in-Next.result _ (c.block-in-Next.ensures command.Next) c.map-in-Next.ensures.cases ∙ sym (ap (λ w. arguments_of w (tokens_of c.args.text.now)) c.in-Next.is)

pub returns-in-Count : goal.returns-in-Count
returns-in-Count c = made_as command.Count c.block-in-Count.result c.map-in-Count.result _ (c.block-in-Count.ensures command.Count) c.map-in-Count.ensures.cases ∙ sym (ap (λ w. arguments_of w (tokens_of c.args.text.now)) c.in-Count.is)

pub returns-in-Rank : goal.returns-in-Rank
returns-in-Rank c = made_as command.Rank c.block-in-Rank.result c.map-in-Rank.result _ (c.block-in-Rank.ensures command.Rank) c.map-in-Rank.ensures.cases ∙ sym (ap (λ w. arguments_of w (tokens_of c.args.text.now)) c.in-Rank.is)

pub returns-in-Longest : goal.returns-in-Longest
returns-in-Longest c = made_as command.Longest c.block-in-Longest.result c.map-in-Longest.result _ (c.block-in-Longest.ensures command.Longest) c.map-in-Longest.ensures.cases ∙ sym (ap (λ w. arguments_of w (tokens_of c.args.text.now)) c.in-Longest.is)

pub returns-in-Draw : goal.returns-in-Draw
returns-in-Draw c = made_as command.Draw c.block-in-Draw.result c.map-in-Draw.result _ (c.block-in-Draw.ensures command.Draw) c.map-in-Draw.ensures.cases ∙ sym (ap (λ w. arguments_of w (tokens_of c.args.text.now)) c.in-Draw.is)

pub returns-in-Whole : goal.returns-in-Whole
returns-in-Whole c = made_as command.Whole c.block-in-Whole.result c.map-in-Whole.result _ (c.block-in-Whole.ensures command.Whole) c.map-in-Whole.ensures.cases ∙ sym (ap (λ w. arguments_of w (tokens_of c.args.text.now)) c.in-Whole.is)

pub returns-in-NextWhole : goal.returns-in-NextWhole
returns-in-NextWhole c = made_as command.NextWhole c.block-in-NextWhole.result c.map-in-NextWhole.result _ (c.block-in-NextWhole.ensures command.NextWhole) c.map-in-NextWhole.ensures.cases ∙ sym (ap (λ w. arguments_of w (tokens_of c.args.text.now)) c.in-NextWhole.is)
