-- The definitions on small texts.
use Rattle.std.proofs.Common.{◌≡◌, true, false, [], ◌∷◌, ◌++◌, refl, codes, arith}
use Rattle.std.proofs.lemmas.Bool.{false≢true}
use Rattle.gml_text.specs.Number.{IsNumber}
use Rattle.gml_text.specs.Document.{empty, number, string, list, depth}
use Rattle.gml_text.specs.Grammar.{is_gap, is_key, Spells}
use Rattle.gml_text.specs.Layout.{written}
use Rattle.gml_text.proofs.NumberPasses.{number_passes}
use Rattle.gml_text.proofs.PassesNumber.{passes_number}

-- a gap: none, whitespace, a comment with its line end; a comment without one only at the end of the input
gap_none : is_gap false [] ≡ true
gap_none = refl

gap_white : is_gap false (32 ∷ 9 ∷ 11 ∷ 12 ∷ 13 ∷ 10 ∷ []) ≡ true
gap_white = refl

gap_comment : is_gap false (codes "# x" ++ (13 ∷ 32 ∷ [])) ≡ true
gap_comment = refl

gap_open : is_gap false (codes "# x") ≡ false
gap_open = refl

gap_open_last : is_gap true (codes "# x") ≡ true
gap_open_last = refl

gap_letter : is_gap true (codes " x") ≡ false
gap_letter = refl

-- keys
key_all : is_key (codes "w_2Z") ≡ true
key_all = refl

key_digit : is_key (codes "2w") ≡ false
key_digit = refl

key_line : is_key (codes "_w") ≡ false
key_line = refl

key_minus : is_key (codes "w-2") ≡ false
key_minus = refl

key_none : is_key [] ≡ false
key_none = refl

-- numbers
number_signed : IsNumber (codes "-007")
number_signed = passes_number (codes "-007") refl

number_point_last : IsNumber (codes "1.")
number_point_last = passes_number (codes "1.") refl

number_point_first : IsNumber (codes "+.5e-3")
number_point_first = passes_number (codes "+.5e-3") refl

number_marked : IsNumber (codes "1.5E+3")
number_marked = passes_number (codes "1.5E+3") refl

number_special : IsNumber (codes "-iNf")
number_special = passes_number (codes "-iNf") refl

number_nan : IsNumber (codes "NAN")
number_nan = passes_number (codes "NAN") refl

no_number_point : IsNumber (codes ".") → ⊥
no_number_point is = false≢true (number_passes (codes ".") is)

no_number_mark : IsNumber (codes "1e") → ⊥
no_number_mark is = false≢true (number_passes (codes "1e") is)

no_number_sign : IsNumber (codes "+-1") → ⊥
no_number_sign is = false≢true (number_passes (codes "+-1") is)

no_number_points : IsNumber (codes "1..") → ⊥
no_number_points is = false≢true (number_passes (codes "1..") is)

no_number_word : IsNumber (codes "infx") → ⊥
no_number_word is = false≢true (number_passes (codes "infx") is)

no_number_none : IsNumber [] → ⊥
no_number_none is = false≢true (number_passes [] is)

-- documents: the empty text, and a number with a comment right behind it
spells_empty : Spells [] empty
spells_empty = record { rest = []; pairs = refl; gap = refl; depth = omega arith }

spells_number : Spells (codes "x 1#c") (number (codes "x") (codes "1") empty)
spells_number =
    record {
      rest = codes "#c";
      pairs = (
        codes " 1#c",
        codes "#c",
        record { stands = record { gap = []; whole = refl; is_gap = refl }; is_key = refl; ends = refl },
        record { stands = record { gap = codes " "; whole = refl; is_gap = refl }; is_number = number_one_digit; ends = refl },
        refl,
      );
      gap = refl;
      depth = omega arith;
    }
  where
    number_one_digit : IsNumber (codes "1")
    number_one_digit = passes_number (codes "1") refl

-- brackets and quotes need no gap
spells_brackets : Spells (codes "a[b\"c\"]") (list (codes "a") (string (codes "b") (codes "c") empty) empty)
spells_brackets =
    record {
      rest = [];
      pairs = (
        codes "[b\"c\"]",
        codes "b\"c\"]",
        codes "]",
        [],
        record { stands = record { gap = []; whole = refl; is_gap = refl }; is_key = refl; ends = refl },
        record { gap = []; whole = refl; is_gap = refl },
        (
          codes "\"c\"]",
          codes "]",
          record { stands = record { gap = []; whole = refl; is_gap = refl }; is_key = refl; ends = refl },
          record { stands = record { gap = []; whole = refl; is_gap = refl }; no_quote = refl },
          refl,
        ),
        record { gap = []; whole = refl; is_gap = refl },
        refl,
      );
      gap = refl;
      depth = omega arith;
    }

-- the layout of a small document
layout : written (list (codes "g") (number (codes "id") (codes "-2") (string (codes "s") (codes "t") empty)) empty) ≡ codes "g [\n  id -2\n  s \"t\"\n]\n"
layout = refl

layout_empty : written empty ≡ []
layout_empty = refl

-- lists in lists
depth_two : depth (list (codes "a") (list (codes "b") empty empty) (number (codes "c") (codes "1") empty)) ≡ 2
depth_two = refl
