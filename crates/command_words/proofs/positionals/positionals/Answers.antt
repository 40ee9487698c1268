use Rattle.std.proofs.Common.{rules, ◌≡◌, true, ap, ap₂, ◌∙◌, codes}
use Rattle.std.proofs.lemmas.Result.{IfOk-weaker}
use Rattle.clap.specs.Walk.{Rule, rule_of}
use Rattle.clap.specs.Simple.{app_of, app_of_fields, on_top, with_rule}
use Rattle.command_words.specs.Positionals.{base, positional}
use Rattle.command_words.proofs.positionals.positionals.Goals as goal

pub returns : goal.returns
returns c =
    let command_is : rule_of c.required-command.result ≡ positional (codes "command") = ap rule_of c.required-command.ensures ∙ ap (λ (r : Rule). record r { required = true }) c.new.ensures.rule in
    let first_is : rule_of c.required-first.result ≡ positional (codes "first") = ap rule_of c.required-first.ensures ∙ ap (λ (r : Rule). record r { required = true }) c.new-2.ensures.rule in
    let second_is : rule_of c.required-second.result ≡ positional (codes "second") = ap rule_of c.required-second.ensures ∙ ap (λ (r : Rule). record r { required = true }) c.new-3.ensures.rule in
    let base_is : app_of c.disable_help_flag.result ≡ base = ap app_of_fields c.disable_help_flag.ensures
    ∙ ap (on_top (λ s. record s { disable_help_flag = true })) (ap app_of_fields c.no_binary_name.ensures ∙ ap (on_top (λ s. record s { no_binary_name = true })) c.new-4.ensures.app) in
    let two = c.in_ok-arg-2.ensures.shape (search rules) ∙ ap₂ with_rule (c.in_ok-arg.ensures.shape (search rules) ∙ ap₂ with_rule base_is command_is) first_is in
    IfOk-weaker c.arg-3.result _ _ (λ r h. h.shape (search rules) ∙ ap₂ with_rule two second_is) c.arg-3.ensures
