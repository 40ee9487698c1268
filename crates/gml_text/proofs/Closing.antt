-- Brackets that close the lists that are open: what makes a document of one that has been read in part.
use Rattle.std.proofs.Common.{◌≡◌, ℕ, Bool, true, false, cond, ◌&&◌, eqb, List, [], ◌∷◌, ◌++◌, refl, sym, subst, inl, inr}
use Rattle.std.proofs.lemmas.List.{append-nil}
use Rattle.std.proofs.lemmas.Bool.{false≢true}
use Rattle.gml_text.specs.Bytes.{is_white, is_line_end}
use Rattle.gml_text.specs.Document.{Document, empty, number, string, append, depth}
use Rattle.gml_text.specs.Grammar.{is_gap, is_comment, is_behind_word, KeyStands, PairsStand}
use Rattle.gml_text.specs.Breaks.{WholeValue, WholePair}
use Rattle.gml_text.specs.Partial.{Frame, closed, plug, Ends, Completes}
use Rattle.gml_text.proofs.Documents.{append-empty}
use Rattle.gml_text.proofs.OtherRest.{stands_more}

-- the choices of two gaps, where the one follows from the other
pub pick_more : (white hash x y x' y' : Bool) → (x ≡ true → x' ≡ true) → (y ≡ true → y' ≡ true) → cond white x (hash && y) ≡ true → cond white x' (hash && y') ≡ true
pick_more true hash x y x' y' of_x of_y h = of_x h
pick_more false true x y x' y' of_x of_y h = of_y h
pick_more false false x y x' y' of_x of_y h = absurd (false≢true h)

pub pick_line : (line x y x' y' : Bool) → (x ≡ true → x' ≡ true) → (y ≡ true → y' ≡ true) → cond line x y ≡ true → cond line x' y' ≡ true
pick_line true x y x' y' of_x of_y h = of_x h
pick_line false x y x' y' of_x of_y h = of_y h

-- a gap is one at the end of the input too
pub both_last : (gap : List ℕ) → (is_gap false gap ≡ true → is_gap true gap ≡ true) × (is_comment false gap ≡ true → is_comment true gap ≡ true)
both_last [] = (λ _. refl, λ _. refl)
both_last (b ∷ bs) =
    let rest = both_last bs in (
      pick_more (is_white b) (eqb b 35) (is_gap false bs) (is_comment false bs) (is_gap true bs) (is_comment true bs) rest.0 rest.1,
      pick_line (is_line_end b) (is_gap false bs) (is_comment false bs) (is_gap true bs) (is_comment true bs) rest.0 rest.1,
    )

pub gap_last : (gap : List ℕ) → is_gap false gap ≡ true → is_gap true gap ≡ true
gap_last gap h = (both_last gap).0 h

-- a gap at the end of the input and a line end are a gap
both_line : (gap : List ℕ) → (is_gap true gap ≡ true → is_gap false (gap ++ (10 ∷ [])) ≡ true) × (is_comment true gap ≡ true → is_comment false (gap ++ (10 ∷ [])) ≡ true)
both_line [] = (λ _. refl, λ _. refl)
both_line (b ∷ bs) =
    let rest = both_line bs in (
      pick_more (is_white b) (eqb b 35) (is_gap true bs) (is_comment true bs) (is_gap false (bs ++ (10 ∷ []))) (is_comment false (bs ++ (10 ∷ []))) rest.0 rest.1,
      pick_line (is_line_end b) (is_gap true bs) (is_comment true bs) (is_gap false (bs ++ (10 ∷ []))) (is_comment false (bs ++ (10 ∷ []))) rest.0 rest.1,
    )

pub gap_line : (gap : List ℕ) → is_gap true gap ≡ true → is_gap false (gap ++ (10 ∷ [])) ≡ true
gap_line gap h = (both_line gap).0 h

-- a bracket for each open list
abbrev pub brackets : List Frame → List ℕ
brackets [] = []
brackets (frame ∷ frames) = 93 ∷ brackets frames

pub brackets_behind : (frames : List Frame) → is_behind_word (brackets frames) ≡ true
brackets_behind [] = refl
brackets_behind (frame ∷ frames) = refl

-- behind a gap they end the lists
pub ends_closed : (frames : List Frame) (pairs : Document) (gap : List ℕ) → is_gap false gap ≡ true → Ends frames pairs (gap ++ brackets frames) (plug frames pairs)
ends_closed [] pairs gap is = (subst (λ (xs : List ℕ). is_gap true xs ≡ true) (sym (append-nil gap)) (gap_last gap is), refl)
ends_closed (frame ∷ frames) pairs gap is = (
  brackets frames,
  record { gap = gap; whole = refl; is_gap = is },
  (
    empty,
    brackets frames,
    refl,
    subst (λ (p : Document). Ends frames p (brackets frames) (plug frames (closed frame pairs))) (sym (append-empty (closed frame pairs))) (ends_closed frames (closed frame pairs) [] refl),
  ),
)

-- some pairs, a gap and the brackets
pub completes_closed : (frames : List Frame) (pairs more : Document) (bytes gap : List ℕ) → is_gap false gap ≡ true → PairsStand more bytes (gap ++ brackets frames) → Completes frames pairs bytes (plug frames (append pairs more))
completes_closed frames pairs more bytes gap is s = (more, gap ++ brackets frames, s, ends_closed frames (append pairs more) gap is)

-- two quotes are a value
pub quotes_value : WholeValue (34 ∷ 34 ∷ [])
quotes_value = record { text = []; stands = inr (record { stands = record { gap = []; whole = refl; is_gap = refl }; no_quote = refl }) }

-- a word goes on no further than to bytes that end it
behind_more : (bytes more : List ℕ) → is_behind_word bytes ≡ true → is_behind_word more ≡ true → is_behind_word (bytes ++ more) ≡ true
behind_more [] more h k = k
behind_more (b ∷ bs) more h k = h

-- a pair with no list in it, and bytes behind it that end a word
pub record FlatPair (bytes rest : List ℕ) : Type 0 where
  pub pair : Document
  pub flat : depth pair ≡ 0
  pub stands : PairsStand pair bytes rest

flat_value : (key bytes value rest : List ℕ) → KeyStands key (bytes ++ rest) (value ++ rest) → WholeValue value → is_behind_word rest ≡ true → FlatPair (bytes ++ rest) rest
flat_value key bytes value rest k whole ends = elim whole.stands [
  | inl s ↦ record {
    pair = number key whole.text empty;
    flat = refl;
    stands = (value ++ rest, rest, k, record { stands = stands_more whole.text value [] rest s.stands; is_number = s.is_number; ends = ends }, refl);
  }
  | inr s ↦ record {
    pair = string key whole.text empty;
    flat = refl;
    stands = (value ++ rest, rest, k, record { stands = stands_more (34 ∷ (whole.text ++ (34 ∷ []))) value [] rest s.stands; no_quote = s.no_quote }, refl);
  }
]

pub flat_pair : (bytes rest : List ℕ) → WholePair bytes → is_behind_word rest ≡ true → FlatPair (bytes ++ rest) rest
flat_pair bytes rest p ends =
    flat_value p.key bytes p.value rest
    (record { stands = stands_more p.key bytes p.value rest p.stands.stands; is_key = p.stands.is_key; ends = behind_more p.value rest p.stands.ends ends })
    p.whole ends
