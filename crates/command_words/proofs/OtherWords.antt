-- Fewer or more than three words that do not begin with `-` are refused by clap.
use Rattle.std.proofs.Common.{◌≡◌, true, false, cond, List, [], ◌∷◌, Option, None, is_some, refl, ap, ◌∙◌}
use Rattle.std.specs.Option.{option_map_or}
use Rattle.clap.specs.Lexer.{long_of}
use Rattle.clap.specs.Walk.{Held, Step, Text, Walk, idle, value, walked, walk, nothing_held, word_met, finished, settled}
use Rattle.clap.specs.Simple.{built}
use Rattle.clap.specs.Kinds.{Kinds, or_else}
use Rattle.clap.specs.Faults.{fault_of, is_simple_and_free, walk_fault, turn_fault, word_fault, step_fault, flag_word_fault, bundle_fault, defaults_fault, settle_fault, check_fault}
use Rattle.clap.specs.declared.error.kind.ErrorKind.TheVariants.{MissingRequiredArgument, UnknownArgument}
use Rattle.clap.proofs.FaultLemmas.{leaf_fault}
use Rattle.command_words.specs.Positionals.{three}
use Rattle.command_words.proofs.Plain.{IsValue, long-none, short-none, dashes-none, word-value, rules, shape, at_start, after_one, after_two, after_three, turn}

-- the command is one whose faults are told
pub three-free : is_simple_and_free three ≡ true
three-free = refl

-- a plain word is no fault
word-sound : (w : Text) (h : Held) → IsValue w → word_fault shape [] false idle w h ≡ []
word-sound w h v =
    ap (λ t. cond t [] (flag_word_fault rules shape.args_override_self (long_of w) w h)) (dashes-none w v)
    ∙ ap (λ o. flag_word_fault rules shape.args_override_self o w h) (long-none w v) ∙ ap (λ o. option_map_or (λ flags. bundle_fault rules shape.args_override_self flags h) o []) (short-none w v)

-- so the fault of a turn is that of its value
turn-is : (v : Walk) (w : Text) → v.stopped ≡ None → v.waiting ≡ idle → v.is_trailing ≡ false → IsValue w → turn_fault shape [] v w ≡ step_fault shape v.position v.held value
turn-is v w s i t h =
    ap (λ (o : Option (Text × List Text)). cond (is_some o) [] (or_else (word_fault shape [] v.is_trailing v.waiting w v.held) (step_fault shape v.position (word_met rules [] v.is_trailing v.waiting v.position w v.held).0 (word_met rules [] v.is_trailing v.waiting v.position w v.held).1))) s
    ∙ ap (λ x. or_else (word_fault shape [] v.is_trailing x w v.held) (step_fault shape v.position (word_met rules [] v.is_trailing x v.position w v.held).0 (word_met rules [] v.is_trailing x v.position w v.held).1)) i
    ∙ ap (λ b. or_else (word_fault shape [] b idle w v.held) (step_fault shape v.position (word_met rules [] b idle v.position w v.held).0 (word_met rules [] b idle v.position w v.held).1)) t
    ∙ ap (λ k. or_else k (step_fault shape v.position (word_met rules [] false idle v.position w v.held).0 (word_met rules [] false idle v.position w v.held).1)) (word-sound w v.held h)
    ∙ ap (λ (m : Held × Step). step_fault shape v.position m.0 m.1) (word-value rules v.position w v.held h)

more-sound : (v u : Walk) (w : Text) (rest : List Text) → turn_fault shape [] v w ≡ [] → walked rules [] v w ≡ u → walk_fault shape [] v (w ∷ rest) ≡ walk_fault shape [] u rest
unfolding walk_fault
more-sound v u w rest t e = ap (λ k. or_else k (walk_fault shape [] (walked rules [] v w) rest)) t ∙ ap (λ x. walk_fault shape [] x rest) e

none-sound : (v : Walk) → walk_fault shape [] v [] ≡ []
unfolding walk_fault
none-sound v = refl

-- after three words a further one is unknown
stray : (v : Walk) (w : Text) (rest : List Text) → turn_fault shape [] v w ≡ UnknownArgument ∷ [] → walk_fault shape [] v (w ∷ rest) ≡ UnknownArgument ∷ []
unfolding walk_fault
stray v w rest t = ap (λ k. or_else k (walk_fault shape [] (walked rules [] v w) rest)) t

-- what is looked at after the walk
abbrev rest_fault : Walk → Kinds
rest_fault v = or_else (settle_fault rules shape.args_override_self v.held) (or_else (defaults_fault (settled rules v.held).rows rules) (check_fault shape (finished rules v.held) false))

whole : (words : List Text) (v : Walk) → walk rules [] nothing_held words ≡ v → walk_fault shape [] at_start words ≡ [] → fault_of three words ≡ rest_fault v
whole words v w f = leaf_fault (built three) nothing_held words refl
    ∙ ap (λ k. or_else k (rest_fault (walk rules [] nothing_held words))) f ∙ ap rest_fault w

-- no word
pub none-missing : fault_of three [] ≡ MissingRequiredArgument ∷ []
unfolding defaults_fault
none-missing = whole [] at_start refl (none-sound at_start) ∙ refl

-- one word
pub one-missing : (a : Text) → IsValue a → fault_of three (a ∷ []) ≡ MissingRequiredArgument ∷ []
unfolding defaults_fault
one-missing a ha = whole (a ∷ []) (after_one a) (turn at_start a refl refl refl ha)
    (more-sound at_start (after_one a) a [] (turn-is at_start a refl refl refl ha) (turn at_start a refl refl refl ha) ∙ none-sound (after_one a)) ∙ refl

-- two words
pub two-missing : (a b : Text) → IsValue a → IsValue b → fault_of three (a ∷ b ∷ []) ≡ MissingRequiredArgument ∷ []
unfolding defaults_fault
two-missing a b ha hb = whole (a ∷ b ∷ []) (after_two a b) (ap (λ v. walked rules [] v b) (turn at_start a refl refl refl ha) ∙ turn (after_one a) b refl refl refl hb)
    (more-sound at_start (after_one a) a (b ∷ []) (turn-is at_start a refl refl refl ha) (turn at_start a refl refl refl ha)
    ∙ more-sound (after_one a) (after_two a b) b [] (turn-is (after_one a) b refl refl refl hb) (turn (after_one a) b refl refl refl hb) ∙ none-sound (after_two a b)) ∙ refl

-- four words or more
pub four-unknown : (a b c d : Text) (rest : List Text) → IsValue a → IsValue b → IsValue c → IsValue d → fault_of three (a ∷ b ∷ c ∷ d ∷ rest) ≡ UnknownArgument ∷ []
four-unknown a b c d rest ha hb hc hd = leaf_fault (built three) nothing_held (a ∷ b ∷ c ∷ d ∷ rest) refl
    ∙ ap (λ k. or_else k (rest_fault (walk rules [] nothing_held (a ∷ b ∷ c ∷ d ∷ rest))))
    (more-sound at_start (after_one a) a (b ∷ c ∷ d ∷ rest) (turn-is at_start a refl refl refl ha) (turn at_start a refl refl refl ha)
    ∙ more-sound (after_one a) (after_two a b) b (c ∷ d ∷ rest) (turn-is (after_one a) b refl refl refl hb) (turn (after_one a) b refl refl refl hb)
    ∙ more-sound (after_two a b) (after_three a b c) c (d ∷ rest) (turn-is (after_two a b) c refl refl refl hc) (turn (after_two a b) c refl refl refl hc)
    ∙ stray (after_three a b c) d rest (turn-is (after_three a b c) d refl refl refl hd))
