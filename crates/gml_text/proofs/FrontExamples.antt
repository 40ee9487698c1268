-- Fronts and places of faults in small texts.
use Rattle.std.proofs.Common.{◌≡◌, ℕ, [], ◌∷◌, ◌++◌, List, refl, subst, inl, codes, arith}
use Rattle.std.proofs.lemmas.List.{append-nil}
use Rattle.gml_text.specs.Document.{empty, number, list}
use Rattle.gml_text.specs.Grammar.{KeyStands, Spells}
use Rattle.gml_text.specs.Number.{IsNumber}
use Rattle.gml_text.specs.Breaks.{Breaks, ValueBreaks, PairBreaks}
use Rattle.gml_text.specs.Front.{Front, At}
use Rattle.gml_text.specs.Faults.{IsNoDocument}
use Rattle.gml_text.specs.declared.number.Part.TheVariants.{Nothing}
use Rattle.gml_text.proofs.PassesNumber.{passes_number}
use Rattle.gml_text.proofs.WordBreaks.{key_breaks-later, number_breaks}
use Rattle.gml_text.proofs.ItemBreaks.{break_key, break_number, break_value, break_string}
use Rattle.gml_text.proofs.Closing.{flat_pair}
use Rattle.gml_text.proofs.Completes.{close_none}
use Rattle.gml_text.proofs.Fronts.{IsDocument, breaks_at}

-- `a` and ` 1` behind it
front_key : Front (codes "a")
front_key = (
  codes " 1",
  number (codes "a") (codes "1") empty,
  record {
    rest = [];
    pairs = (
      codes " 1",
      [],
      record { stands = record { gap = []; whole = refl; is_gap = refl }; is_key = refl; ends = refl },
      record { stands = record { gap = codes " "; whole = refl; is_gap = refl }; is_number = one; ends = refl },
      refl,
    );
    gap = refl;
    depth = omega arith;
  },
)
  where
    one : IsNumber (codes "1")
    one = passes_number (codes "1") refl

-- `a [` and `]` behind it
front_open : Front (codes "a [")
front_open = (
  codes "]",
  list (codes "a") empty empty,
  record {
    rest = [];
    pairs = (
      codes " []",
      codes "]",
      codes "]",
      [],
      record { stands = record { gap = []; whole = refl; is_gap = refl }; is_key = refl; ends = refl },
      record { gap = codes " "; whole = refl; is_gap = refl },
      refl,
      record { gap = []; whole = refl; is_gap = refl },
      refl,
    );
    gap = refl;
    depth = omega arith;
  },
)

-- the empty text is its own longest front, and so is `a`
at_nothing : At [] 0
at_nothing = record { within = omega arith; front = ([], empty, record { rest = []; pairs = refl; gap = refl; depth = omega arith }); longest = λ n within f. within }

at_key : At (codes "a") 1
at_key = record { within = omega arith; front = front_key; longest = λ n within f. within }

-- no document begins with `]`
no_bracket : (more : List ℕ) → IsNoDocument (93 ∷ more)
no_bracket more d s = close_none empty (93 ∷ more) more d (record { gap = []; whole = refl; is_gap = refl }) (d, s.rest, s.pairs, (s.gap, refl))

at_bracket : At (codes "]") 0
at_bracket =
    breaks_at (codes "]") 1
    (record {
      front = [];
      tail = codes "]";
      split = refl;
      count = refl;
      more = [];
      whole = (empty, record { rest = []; pairs = refl; gap = refl; depth = omega arith });
      breaks = λ b rest others e. subst (λ (x : ℕ). IsNoDocument (x ∷ others)) (first b rest e) (no_bracket others);
      none = no_bracket [];
    })
  where
    first : (b : ℕ) (rest : List ℕ) → codes "]" ≡ b ∷ rest → 93 ≡ b
    first b rest e = cc

-- a first item that breaks off
first_item : (bytes : List ℕ) (left : ℕ) → PairBreaks bytes left → Breaks IsDocument IsNoDocument bytes left
first_item bytes left b =
    let p = flat_pair (b.front ++ b.more) [] b.whole refl in
    record {
      front = b.front;
      tail = b.tail;
      split = b.split;
      count = b.count;
      more = b.more;
      whole = (
        p.pair,
        subst (λ (xs : List ℕ). Spells xs p.pair) (append-nil (b.front ++ b.more)) (record { rest = []; pairs = p.stands; gap = refl; depth = omega (arith, p.flat) }),
      );
      breaks = λ c rest others e d s. b.breaks c rest others e d s.rest s.pairs (inl s.gap);
      none = λ d s. b.none d s.rest s.pairs (inl s.gap);
    }

-- in `a-1` the sign breaks the key off, and in `a b` the value breaks off behind the gap
at_sign : At (codes "a-1") 1
at_sign =
    breaks_at (codes "a-1") 2
    (first_item (codes "a-1") 2
    (break_key (codes "a-1") (codes "a-1") [] 2 (record { whole = refl; is_word = refl; ends = refl }) (key_breaks-later (codes "a-1") 1 (omega arith) refl refl refl) (λ e. cc) (λ more e. byte more e)))
  where
    byte : (more : List ℕ) → codes "a-1" ≡ 93 ∷ more → ⊥
    byte more e = let head : ◌≡◌ {A = ℕ} 97 93 = cc in omega arith

value_b : ValueBreaks (codes " b") 1
value_b =
    break_number (codes " b") (codes "b") [] 1 (record { whole = refl; is_word = refl; ends = refl }) (number_breaks (codes "b") 0 Nothing (λ more. refl) (λ _. refl) refl) (λ more e. quote more e) (λ more e. bracket more e)
  where
    quote : (more : List ℕ) → codes "b" ≡ 34 ∷ more → ⊥
    quote more e = let head : ◌≡◌ {A = ℕ} 98 34 = cc in omega arith

    bracket : (more : List ℕ) → codes "b" ≡ 91 ∷ more → ⊥
    bracket more e = let head : ◌≡◌ {A = ℕ} 98 91 = cc in omega arith

key_a : (value : List ℕ) → KeyStands (codes "a") (codes "a " ++ value) (codes " " ++ value)
key_a value = record { stands = record { gap = []; whole = refl; is_gap = refl }; is_key = refl; ends = refl }

at_value : At (codes "a b") 2
at_value = breaks_at (codes "a b") 1 (first_item (codes "a b") 1 (break_value (codes "a b") (codes "a") (codes " b") 1 (key_a (codes "b")) value_b))

-- a string without its second quote, and half a special number, are fronts to their ends
at_string : At (codes "a \"xy") 5
at_string = breaks_at (codes "a \"xy") 0 (first_item (codes "a \"xy") 0 (break_value (codes "a \"xy") (codes "a") (codes " \"xy") 0 (key_a (codes "\"xy")) (break_string (codes " \"xy") (codes "xy") refl refl)))
