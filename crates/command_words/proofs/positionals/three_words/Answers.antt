use Rattle.std.proofs.Common.{map, string_bytes, sym, ap, ◌∙◌}
use Rattle.clap.specs.Simple.{is_simple, matches_of}
use Rattle.clap.specs.Takes.{takes}
use Rattle.clap.specs.Faults.{fault_of, is_simple_and_free}
use Rattle.command_words.specs.Positionals.{texts_in}
use Rattle.command_words.proofs.Plain.{three-simple}
use Rattle.command_words.proofs.OtherWords.{three-free}
use Rattle.command_words.proofs.ThreeWords.{taken-three, refused-other}
use Rattle.command_words.proofs.positionals.three_words.Goals as goal

pub returns-in-Ok : goal.returns-in-Ok
returns-in-Ok c =
    let words = map string_bytes c.args.words.now in
    let app = c.in_ok-command.ensures in
    c.texts.ensures ∙ ap texts_in ((c.in-Ok.ensures.matches (ap is_simple app ∙ three-simple)).0 ∙ ap (λ a. matches_of a words) app)
    ∙ taken-three words c.requires (sym (ap (λ a. fault_of a words) app) ∙ c.in-Ok.ensures.kinds (ap is_simple_and_free app ∙ three-free))

pub returns : goal.returns
returns c =
    let words = map string_bytes c.args.words.now in
    sym (refused-other words c.requires (λ t. c.in_default.not-OutOfMemory (c.kind.ensures ∙ c.in-Err.ensures.passes (ap (λ a. takes a words) c.in_ok-command.ensures ∙ t))))
