-- Plain words as clap reads them: each is a value of a positional.
use Rattle.std.proofs.Common.{◌≡◌, ℕ, Bool, true, false, ◌&&◌, ◌||◌, cond, List, [], ◌∷◌, Option, Some, None, is_some, codes, refl, ap, ◌∙◌, option_and_then, bytes_eq, ◌==◌}
use Rattle.std.proofs.lemmas.Bool.{true≢false}
use Rattle.std.specs.Option.{option_map_or}
use Rattle.std.specs.List.{list_all}
use Rattle.clap.specs.Lexer.{strip_byte, long_of, long_of_rest, short_of, short_of_rest}
use Rattle.clap.specs.Walk.{Held, Rule, Step, Text, Walk, idle, value, trailing, walked, walked_from, after_step, finished, walk, walk_from, nothing_held, word_met, long_or_other, short_or_plain, to_positional, arg_by_index, first_of}
use Rattle.clap.specs.Simple.{Shape, built, is_simple, matches_of}
use Rattle.clap.specs.Takes.{takes, walk_passes, turn_passes, word_passes, flag_word_passes, bundle_passes, step_passes, settle_passes, default_passes, is_valid}
use Rattle.clap.proofs.TakesLemmas.{leaf_takes}
use Rattle.command_words.specs.Positionals.{three}

-- a word that does not begin with `-`
abbrev pub IsValue : Text → Type 0
IsValue w = strip_byte 45 w ≡ None

pub long-none : (w : Text) → IsValue w → long_of w ≡ None
long-none w h = ap (λ o. option_and_then long_of_rest (option_and_then (strip_byte 45) o)) h

pub short-none : (w : Text) → IsValue w → short_of w ≡ None
short-none w h = ap (option_and_then short_of_rest) h

pub three-simple : is_simple three ≡ true
three-simple = refl

pub dashes-none : (w : Text) → IsValue w → bytes_eq w (45 ∷ 45 ∷ []) ≡ false
dashes-none [] h = refl
dashes-none (x ∷ xs) h = ap (λ t. t && bytes_eq xs (45 ∷ [])) (other (x == 45) h)
  where
    other : (t : Bool) → cond t (Some xs) None ≡ None → t ≡ false
    other true e = absurd (true≢false (ap is_some e))
    other false e = refl

-- where nothing waits, such a word is a value
pub word-value : (rules : List Rule) (position : ℕ) (w : Text) (h : Held) → IsValue w → word_met rules [] false idle position w h ≡ (h, value)
word-value rules position w h v =
    ap (λ t. cond t (h, trailing position) (long_or_other rules idle w (long_of w) h)) (dashes-none w v)
    ∙ ap (λ o. long_or_other rules idle w o h) (long-none w v) ∙ ap (λ o. short_or_plain rules idle w o h) (short-none w v)

-- and passes
pub word-passes : (s : Shape) (w : Text) (h : Held) → IsValue w → word_passes s [] false idle w h ≡ true
word-passes s w h v =
    ap (λ t. t || flag_word_passes s.rules s.args_override_self (long_of w) w h) (dashes-none w v)
    ∙ ap (λ o. flag_word_passes s.rules s.args_override_self o w h) (long-none w v) ∙ ap (λ o. option_map_or (λ flags. bundle_passes s.rules s.args_override_self flags h) o true) (short-none w v)

-- the rules of the built command
abbrev pub rules : List Rule
rules = (built three).top.rules

-- where the walk stands after none, one, two and three words
abbrev pub at_start : Walk
at_start = walk_from nothing_held

abbrev pub after_value : Walk → Text → Walk
after_value v w = to_positional rules (arg_by_index rules v.position) w v v.held

-- one word more
pub turn : (v : Walk) (w : Text) → v.stopped ≡ None → v.waiting ≡ idle → v.is_trailing ≡ false → IsValue w → walked rules [] v w ≡ after_value v w
unfolding walked
turn v w s i t h =
    ap (λ o. walked_from rules [] o v w) s
    ∙ ap (λ (p : Held × Step). after_step rules w v p.0 p.1) (ap (λ x. word_met rules [] v.is_trailing x v.position w v.held) i ∙ ap (λ b. word_met rules [] b idle v.position w v.held) t ∙ word-value rules v.position w v.held h)

abbrev pub after_one : Text → Walk
after_one a = after_value at_start a

abbrev pub after_two : Text → Text → Walk
after_two a b = after_value (after_one a) b

abbrev pub after_three : Text → Text → Text → Walk
after_three a b c = after_value (after_two a b) c

three-walked : (a b c : Text) → IsValue a → IsValue b → IsValue c → walk rules [] nothing_held (a ∷ b ∷ c ∷ []) ≡ after_three a b c
three-walked a b c ha hb hc =
    ap (λ v. walked rules [] (walked rules [] v b) c) (turn at_start a refl refl refl ha)
    ∙ ap (λ v. walked rules [] v c) (turn (after_one a) b refl refl refl hb) ∙ turn (after_two a b) c refl refl refl hc

-- the texts found are the words
pub three-matches : (a b c : Text) → IsValue a → IsValue b → IsValue c
    → (first_of (codes "command") (matches_of three (a ∷ b ∷ c ∷ [])) ≡ Some a) × (first_of (codes "first") (matches_of three (a ∷ b ∷ c ∷ [])) ≡ Some b) × (first_of (codes "second") (matches_of three (a ∷ b ∷ c ∷ [])) ≡ Some c)
three-matches a b c ha hb hc = (
  ap (λ (v : Walk). first_of (codes "command") (finished rules v.held)) (three-walked a b c ha hb hc),
  ap (λ (v : Walk). first_of (codes "first") (finished rules v.held)) (three-walked a b c ha hb hc),
  ap (λ (v : Walk). first_of (codes "second") (finished rules v.held)) (three-walked a b c ha hb hc),
)

-- the built command
abbrev pub shape : Shape
shape = (built three).top

-- a turn passes where its value does
turn-passes : (v : Walk) (w : Text) → v.stopped ≡ None → v.waiting ≡ idle → v.is_trailing ≡ false → IsValue w → step_passes shape v.position v.held value ≡ true → turn_passes shape [] v w ≡ true
turn-passes v w s i t h p =
    ap (λ (o : Option (Text × List Text)). is_some o || (word_passes shape [] v.is_trailing v.waiting w v.held && step_passes shape v.position (word_met rules [] v.is_trailing v.waiting v.position w v.held).0 (word_met rules [] v.is_trailing v.waiting v.position w v.held).1)) s
    ∙ ap (λ x. word_passes shape [] v.is_trailing x w v.held && step_passes shape v.position (word_met rules [] v.is_trailing x v.position w v.held).0 (word_met rules [] v.is_trailing x v.position w v.held).1) i
    ∙ ap (λ b. word_passes shape [] b idle w v.held && step_passes shape v.position (word_met rules [] b idle v.position w v.held).0 (word_met rules [] b idle v.position w v.held).1) t
    ∙ ap (λ b. b && step_passes shape v.position (word_met rules [] false idle v.position w v.held).0 (word_met rules [] false idle v.position w v.held).1) (word-passes shape w v.held h)
    ∙ ap (λ (m : Held × Step). step_passes shape v.position m.0 m.1) (word-value rules v.position w v.held h) ∙ p

more-passes : (v u : Walk) (w : Text) (rest : List Text) → turn_passes shape [] v w ≡ true → walked rules [] v w ≡ u → walk_passes shape [] u rest ≡ true → walk_passes shape [] v (w ∷ rest) ≡ true
unfolding walk_passes
more-passes v u w rest t e h = ap (λ b. b && walk_passes shape [] (walked rules [] v w) rest) t ∙ ap (λ x. walk_passes shape [] x rest) e ∙ h

none-pass : (v : Walk) → walk_passes shape [] v [] ≡ true
unfolding walk_passes
none-pass v = refl

three-pass : (a b c : Text) → IsValue a → IsValue b → IsValue c → walk_passes shape [] at_start (a ∷ b ∷ c ∷ []) ≡ true
three-pass a b c ha hb hc =
    more-passes at_start (after_one a) a (b ∷ c ∷ []) (turn-passes at_start a refl refl refl ha refl) (turn at_start a refl refl refl ha)
    (more-passes (after_one a) (after_two a b) b (c ∷ []) (turn-passes (after_one a) b refl refl refl hb refl) (turn (after_one a) b refl refl refl hb)
    (more-passes (after_two a b) (after_three a b c) c [] (turn-passes (after_two a b) c refl refl refl hc refl) (turn (after_two a b) c refl refl refl hc) (none-pass (after_three a b c))))

after-pass : (a b c : Text) → (settle_passes rules shape.args_override_self (after_three a b c).held && (list_all default_passes rules && is_valid shape (finished rules (after_three a b c).held) false)) ≡ true
after-pass a b c = refl

-- three words that don't begin with `-` are taken
pub three-takes : (a b c : Text) → IsValue a → IsValue b → IsValue c → takes three (a ∷ b ∷ c ∷ []) ≡ true
three-takes a b c ha hb hc = leaf_takes (built three) nothing_held (a ∷ b ∷ c ∷ []) refl
    (ap (λ t. t && (settle_passes rules shape.args_override_self (walk rules [] nothing_held (a ∷ b ∷ c ∷ [])).held && (list_all default_passes rules && is_valid shape (finished rules (walk rules [] nothing_held (a ∷ b ∷ c ∷ [])).held) false))) (three-pass a b c ha hb hc)
    ∙ ap (λ (v : Walk). settle_passes rules shape.args_override_self v.held && (list_all default_passes rules && is_valid shape (finished rules v.held) false)) (three-walked a b c ha hb hc) ∙ after-pass a b c)
