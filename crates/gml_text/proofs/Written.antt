-- The layout of a document spells it.
use Rattle.std.proofs.Common.{◌≡◌, ℕ, ◌+◌, ◌*◌, true, false, eqb, List, [], ◌∷◌, ◌++◌, replicate, zero, suc, refl, sym, ap, subst, append_assoc}
use Rattle.std.specs.List.{list_all}
use Rattle.std.proofs.lemmas.Bool.{false≢true}
use Rattle.std.proofs.lemmas.List.{append-nil}
use Rattle.gml_text.specs.Bytes.{is_white, is_line_end, is_no_quote}
use Rattle.gml_text.specs.Number.{IsNumber}
use Rattle.gml_text.specs.Document.{Document, empty, number, string, list}
use Rattle.gml_text.specs.Grammar.{is_gap, is_comment, is_key, KeyStands, NumberStands, StringStands, OpenStands, CloseStands, PairsStand, Spells}
use Rattle.gml_text.specs.Layout.{indent, number_line, string_line, open_line, close_line, lines, written}
use Rattle.gml_text.specs.WellFormed.{AreTokens, IsWellFormed}
use Rattle.gml_text.proofs.Closing.{pick_more, pick_line, gap_last}

-- a gap before another is one
both_append : (a b : List ℕ) → is_gap false b ≡ true → (is_gap false a ≡ true → is_gap false (a ++ b) ≡ true) × (is_comment false a ≡ true → is_comment false (a ++ b) ≡ true)
both_append [] b h = (λ _. h, λ e. absurd (false≢true e))
both_append (x ∷ a) b h =
    let rest = both_append a b h in (
      pick_more (is_white x) (eqb x 35) (is_gap false a) (is_comment false a) (is_gap false (a ++ b)) (is_comment false (a ++ b)) rest.0 rest.1,
      pick_line (is_line_end x) (is_gap false a) (is_comment false a) (is_gap false (a ++ b)) (is_comment false (a ++ b)) rest.0 rest.1,
    )

gap-append : (a b : List ℕ) → is_gap false a ≡ true → is_gap false b ≡ true → is_gap false (a ++ b) ≡ true
gap-append a b of_a of_b = (both_append a b of_b).0 of_a

-- spaces are a gap
gap_spaces : (n : ℕ) → is_gap false (replicate n 32) ≡ true
gap_spaces zero = refl
gap_spaces (suc n) = gap_spaces n

gap_indent : (before : List ℕ) (lists : ℕ) → is_gap false before ≡ true → is_gap false (before ++ indent lists) ≡ true
gap_indent before lists h = gap-append before (indent lists) h (gap_spaces (2 * lists))

-- the pairs of a document stand in its lines, and behind them a gap
record Stood (d : Document) (bytes rest : List ℕ) : Type 0 where
  pub gap : List ℕ
  pub is_gap : is_gap false gap ≡ true
  pub pairs : PairsStand d bytes (gap ++ rest)

key_stood : (before key value bytes : List ℕ) (lists : ℕ) → is_gap false before ≡ true → is_key key ≡ true → bytes ≡ (before ++ indent lists) ++ (key ++ (32 ∷ value)) → KeyStands key bytes (32 ∷ value)
key_stood before key value bytes lists of_before is e = record { stands = record { gap = before ++ indent lists; whole = e; is_gap = gap_indent before lists of_before }; is_key = is; ends = refl }

number_stood : (text rest : List ℕ) → IsNumber text → NumberStands text (32 ∷ (text ++ (10 ∷ rest))) (10 ∷ rest)
number_stood text rest is = record { stands = record { gap = 32 ∷ []; whole = refl; is_gap = refl }; is_number = is; ends = refl }

string_stood : (text rest : List ℕ) → list_all is_no_quote text ≡ true → StringStands text (32 ∷ 34 ∷ (text ++ (34 ∷ 10 ∷ rest))) (10 ∷ rest)
string_stood text rest is =
    record {
      stands = record { gap = 32 ∷ []; whole = ap (λ (xs : List ℕ). 32 ∷ 34 ∷ xs) (sym (append_assoc text (34 ∷ []) (10 ∷ rest))); is_gap = refl };
      no_quote = is;
    }

open_stood : (rest : List ℕ) → OpenStands (32 ∷ 91 ∷ rest) rest
open_stood rest = record { gap = 32 ∷ []; whole = refl; is_gap = refl }

close_stood : (before rest bytes : List ℕ) (lists : ℕ) → is_gap false before ≡ true → bytes ≡ (before ++ indent lists) ++ (93 ∷ rest) → CloseStands bytes rest
close_stood before rest bytes lists of_before e = record { gap = before ++ indent lists; whole = e; is_gap = gap_indent before lists of_before }

-- how the lines of a first pair and what follows are cut
cut_number : (before : List ℕ) (lists : ℕ) (key text more rest : List ℕ) → before ++ ((number_line lists key text ++ more) ++ rest) ≡ (before ++ indent lists) ++ (key ++ (32 ∷ (text ++ (10 ∷ (more ++ rest)))))
cut_number before lists key text more rest = simp append_assoc

cut_string : (before : List ℕ) (lists : ℕ) (key text more rest : List ℕ) → before ++ ((string_line lists key text ++ more) ++ rest) ≡ (before ++ indent lists) ++ (key ++ (32 ∷ 34 ∷ (text ++ (34 ∷ 10 ∷ (more ++ rest)))))
cut_string before lists key text more rest = simp append_assoc

cut_list : (before : List ℕ) (lists : ℕ) (key inner more rest : List ℕ) → before ++ ((open_line lists key ++ inner ++ close_line lists ++ more) ++ rest) ≡ (before ++ indent lists) ++ (key ++ (32 ∷ 91 ∷ 10 ∷ (inner ++ (close_line lists ++ (more ++ rest)))))
cut_list before lists key inner more rest = simp append_assoc

cut_close : (before : List ℕ) (lists : ℕ) (rest : List ℕ) → before ++ (close_line lists ++ rest) ≡ (before ++ indent lists) ++ (93 ∷ 10 ∷ rest)
cut_close before lists rest = simp append_assoc

lines_stood : (d : Document) (lists : ℕ) (before rest : List ℕ) → AreTokens d → is_gap false before ≡ true → Stood d (before ++ (lines lists d ++ rest)) rest
lines_stood empty lists before rest are h = record { gap = before; is_gap = h; pairs = refl }
lines_stood (number key text more) lists before rest are h =
    let behind = lines_stood more lists (10 ∷ []) rest are.2 refl in
    record {
      gap = behind.gap;
      is_gap = behind.is_gap;
      pairs = (
        32 ∷ (text ++ (10 ∷ (lines lists more ++ rest))),
        10 ∷ (lines lists more ++ rest),
        key_stood before key (text ++ (10 ∷ (lines lists more ++ rest))) (before ++ (lines lists (number key text more) ++ rest)) lists h are.0 (cut_number before lists key text (lines lists more) rest),
        number_stood text (lines lists more ++ rest) are.1,
        behind.pairs,
      );
    }
lines_stood (string key text more) lists before rest are h =
    let behind = lines_stood more lists (10 ∷ []) rest are.2 refl in
    record {
      gap = behind.gap;
      is_gap = behind.is_gap;
      pairs = (
        32 ∷ 34 ∷ (text ++ (34 ∷ 10 ∷ (lines lists more ++ rest))),
        10 ∷ (lines lists more ++ rest),
        key_stood before key (34 ∷ (text ++ (34 ∷ 10 ∷ (lines lists more ++ rest)))) (before ++ (lines lists (string key text more) ++ rest)) lists h are.0 (cut_string before lists key text (lines lists more) rest),
        string_stood text (lines lists more ++ rest) are.1,
        behind.pairs,
      );
    }
lines_stood (list key inner more) lists before rest are h =
    let tail = close_line lists ++ (lines lists more ++ rest) in
    let within = lines_stood inner (lists + 1) (10 ∷ []) tail are.1 refl in
    let behind = lines_stood more lists (10 ∷ []) rest are.2 refl in
    record {
      gap = behind.gap;
      is_gap = behind.is_gap;
      pairs = (
        32 ∷ 91 ∷ 10 ∷ (lines (lists + 1) inner ++ tail),
        10 ∷ (lines (lists + 1) inner ++ tail),
        within.gap ++ tail,
        10 ∷ (lines lists more ++ rest),
        key_stood before key (91 ∷ 10 ∷ (lines (lists + 1) inner ++ tail)) (before ++ (lines lists (list key inner more) ++ rest)) lists h are.0 (cut_list before lists key (lines (lists + 1) inner) (lines lists more) rest),
        open_stood (10 ∷ (lines (lists + 1) inner ++ tail)),
        within.pairs,
        close_stood within.gap (10 ∷ (lines lists more ++ rest)) (within.gap ++ tail) lists within.is_gap (cut_close within.gap lists (lines lists more ++ rest)),
        behind.pairs,
      );
    }

-- what is written is read again
pub written_spells : (d : Document) → IsWellFormed d → Spells (written d) d
written_spells d is =
    let stood = lines_stood d 0 [] [] is.tokens refl in
    record {
      rest = stood.gap ++ [];
      pairs = subst (λ (bytes : List ℕ). PairsStand d bytes (stood.gap ++ [])) (append-nil (lines 0 d)) stood.pairs;
      gap = gap_last (stood.gap ++ []) (gap-append stood.gap [] stood.is_gap refl);
      depth = is.depth;
    }
