use Rattle.std.proofs.Common.{◌∙◌, codes}
use Rattle.clap.specs.Matches.{found_of}
use Rattle.clap.proofs.WalkLemmas.{first_value-rows}
use Rattle.command_words.specs.Positionals.{all_three}
use Rattle.command_words.proofs.positionals.texts.Goals as goal

pub returns : goal.returns
returns c =
    let found = found_of c.args.matches.now in
    let a = c.get_str.ensures ∙ first_value-rows found (codes "command") in
    let b = c.get_str-2.ensures ∙ first_value-rows found (codes "first") in
    let d = c.get_str-3.ensures ∙ first_value-rows found (codes "second") in
    c.all_three.ensures ∙ (λ i. all_three (a i) (b i) (d i))
