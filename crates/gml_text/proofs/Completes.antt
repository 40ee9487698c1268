-- What completes a document of which some pairs have been read, before and after one more item.
use Rattle.std.proofs.Common.{◌≡◌, ℕ, true, List, [], ◌∷◌, refl, sym, subst, ◌∙◌, inl, inr}
use Rattle.gml_text.specs.Document.{Document, empty, number, string, list, append}
use Rattle.gml_text.specs.Grammar.{is_gap, KeyStands, NumberStands, StringStands, OpenStands, CloseStands, PairsStand}
use Rattle.gml_text.specs.Items.{Stops, Stuck}
use Rattle.gml_text.specs.Partial.{Frame, closed, Ends, Completes}
use Rattle.gml_text.proofs.Documents.{append-empty, append-assoc}
use Rattle.gml_text.proofs.NextItem.{key_stops, close_last, key_one, number_one, string_one, open_one, close_one, number_string, number_open, string_open}

-- the same documents are completed
pub record Same (frames : List Frame) (pairs : Document) (bytes : List ℕ) (frames' : List Frame) (pairs' : Document) (behind : List ℕ) : Type 0 where
  pub forth : (d : Document) → Completes frames pairs bytes d → Completes frames' pairs' behind d
  pub back : (d : Document) → Completes frames' pairs' behind d → Completes frames pairs bytes d

-- what stands behind a run of pairs ends it
pub ends_stops : (frames : List Frame) (pairs : Document) (rest : List ℕ) (d : Document) → Ends frames pairs rest d → Stops rest
ends_stops [] pairs rest d e = inl e.0
ends_stops (frame ∷ frames) pairs rest d e = inr (e.0, e.1)

-- where no pairs stand, nothing is completed
pub stuck_completes : (frames : List Frame) (pairs : Document) (bytes : List ℕ) → Stuck bytes → (d : Document) → Completes frames pairs bytes d → ⊥
stuck_completes frames pairs bytes stuck d c = stuck c.0 c.1 c.2 (ends_stops frames (append pairs c.0) c.1 d c.3)

ends_with : (frames : List Frame) (pairs other : Document) (rest : List ℕ) (d : Document) → pairs ≡ other → Ends frames pairs rest d → Ends frames other rest d
ends_with frames pairs other rest d e ends = subst (λ (p : Document). Ends frames p rest d) e ends

-- a pair with a number
module _ (frames : List Frame) (pairs : Document) (bytes value behind key text : List ℕ) (is_key : KeyStands key bytes value) (is_number : NumberStands text value behind) where
  more_number : (more : Document) → append (append pairs (number key text empty)) more ≡ append pairs (number key text more)
  more_number more = append-assoc pairs (number key text empty) more

  number_forth : (more : Document) (rest : List ℕ) (d : Document) → PairsStand more bytes rest → Ends frames (append pairs more) rest d → Completes frames (append pairs (number key text empty)) behind d
  number_forth empty rest d s ends = absurd (key_stops key bytes value is_key (subst Stops (sym s) (ends_stops frames (append pairs empty) rest d ends)))
  number_forth (number k t more) rest d s ends =
      let keys : (k ≡ key) × (s.0 ≡ value) = key_one k key bytes s.0 value s.2 is_key in
      let numbers : (t ≡ text) × (s.1 ≡ behind) = number_one t text value s.1 behind (subst (λ (v : List ℕ). NumberStands t v s.1) keys.1 s.3) is_number in (
        more,
        rest,
        subst (λ (b : List ℕ). PairsStand more b rest) numbers.1 s.4,
        ends_with frames (append pairs (number k t more)) (append (append pairs (number key text empty)) more) rest d
            ((λ i. append pairs (number (keys.0 i) (numbers.0 i) more)) ∙ sym (more_number more)) ends,
      )
  number_forth (string k t more) rest d s ends =
      absurd (number_string text t value behind s.1 is_number (subst (λ (v : List ℕ). StringStands t v s.1) (key_one k key bytes s.0 value s.2 is_key).1 s.3))
  number_forth (list k inner more) rest d s ends =
      absurd (number_open text value behind s.1 is_number (subst (λ (v : List ℕ). OpenStands v s.1) (key_one k key bytes s.0 value s.4 is_key).1 s.5))

  pub same_number : Same frames pairs bytes frames (append pairs (number key text empty)) behind
  same_number =
      record {
        forth = λ d c. number_forth c.0 c.1 d c.2 c.3;
        back = λ d c. (
          number key text c.0,
          c.1,
          (value, behind, is_key, is_number, c.2),
          ends_with frames (append (append pairs (number key text empty)) c.0) (append pairs (number key text c.0)) c.1 d (more_number c.0) c.3,
        );
      }

-- a pair with a string
module _ (frames : List Frame) (pairs : Document) (bytes value behind key text : List ℕ) (is_key : KeyStands key bytes value) (is_string : StringStands text value behind) where
  more_string : (more : Document) → append (append pairs (string key text empty)) more ≡ append pairs (string key text more)
  more_string more = append-assoc pairs (string key text empty) more

  string_forth : (more : Document) (rest : List ℕ) (d : Document) → PairsStand more bytes rest → Ends frames (append pairs more) rest d → Completes frames (append pairs (string key text empty)) behind d
  string_forth empty rest d s ends = absurd (key_stops key bytes value is_key (subst Stops (sym s) (ends_stops frames (append pairs empty) rest d ends)))
  string_forth (string k t more) rest d s ends =
      let keys : (k ≡ key) × (s.0 ≡ value) = key_one k key bytes s.0 value s.2 is_key in
      let strings : (t ≡ text) × (s.1 ≡ behind) = string_one t text value s.1 behind (subst (λ (v : List ℕ). StringStands t v s.1) keys.1 s.3) is_string in (
        more,
        rest,
        subst (λ (b : List ℕ). PairsStand more b rest) strings.1 s.4,
        ends_with frames (append pairs (string k t more)) (append (append pairs (string key text empty)) more) rest d
            ((λ i. append pairs (string (keys.0 i) (strings.0 i) more)) ∙ sym (more_string more)) ends,
      )
  string_forth (number k t more) rest d s ends =
      absurd (number_string t text value s.1 behind (subst (λ (v : List ℕ). NumberStands t v s.1) (key_one k key bytes s.0 value s.2 is_key).1 s.3) is_string)
  string_forth (list k inner more) rest d s ends =
      absurd (string_open text value behind s.1 is_string (subst (λ (v : List ℕ). OpenStands v s.1) (key_one k key bytes s.0 value s.4 is_key).1 s.5))

  pub same_string : Same frames pairs bytes frames (append pairs (string key text empty)) behind
  same_string =
      record {
        forth = λ d c. string_forth c.0 c.1 d c.2 c.3;
        back = λ d c. (
          string key text c.0,
          c.1,
          (value, behind, is_key, is_string, c.2),
          ends_with frames (append (append pairs (string key text empty)) c.0) (append pairs (string key text c.0)) c.1 d (more_string c.0) c.3,
        );
      }

-- a list that is opened
module _ (frames : List Frame) (pairs : Document) (bytes value within key : List ℕ) (is_key : KeyStands key bytes value) (is_open : OpenStands value within) where
  more_list : (inner more : Document) → append (append pairs (list key inner empty)) more ≡ append pairs (list key inner more)
  more_list inner more = append-assoc pairs (list key inner empty) more

  open_forth : (more : Document) (rest : List ℕ) (d : Document) → PairsStand more bytes rest → Ends frames (append pairs more) rest d → Completes (record { before = pairs; key = key } ∷ frames) empty within d
  open_forth empty rest d s ends = absurd (key_stops key bytes value is_key (subst Stops (sym s) (ends_stops frames (append pairs empty) rest d ends)))
  open_forth (list k inner more) rest d s ends =
      let keys : (k ≡ key) × (s.0 ≡ value) = key_one k key bytes s.0 value s.4 is_key in
      let opens : s.1 ≡ within = open_one value s.1 within (subst (λ (v : List ℕ). OpenStands v s.1) keys.1 s.5) is_open in (
        inner,
        s.2,
        subst (λ (w : List ℕ). PairsStand inner w s.2) opens s.6,
        (
          s.3,
          s.7,
          (
            more,
            rest,
            s.8,
            ends_with frames (append pairs (list k inner more)) (append (append pairs (list key inner empty)) more) rest d
                ((λ i. append pairs (list (keys.0 i) inner more)) ∙ sym (more_list inner more)) ends,
          ),
        ),
      )
  open_forth (number k t more) rest d s ends =
      absurd (number_open t value s.1 within (subst (λ (v : List ℕ). NumberStands t v s.1) (key_one k key bytes s.0 value s.2 is_key).1 s.3) is_open)
  open_forth (string k t more) rest d s ends =
      absurd (string_open t value s.1 within (subst (λ (v : List ℕ). StringStands t v s.1) (key_one k key bytes s.0 value s.2 is_key).1 s.3) is_open)

  open_back : (d : Document) → Completes (record { before = pairs; key = key } ∷ frames) empty within d → Completes frames pairs bytes d
  open_back d c =
      let inner = c.0 in
      let e = c.3 in
      let after = e.2 in (
        list key inner after.0,
        after.1,
        (value, within, c.1, e.0, is_key, is_open, c.2, e.1, after.2),
        ends_with frames (append (append pairs (list key inner empty)) after.0) (append pairs (list key inner after.0)) after.1 d (more_list inner after.0) after.3,
      )

  pub same_open : Same frames pairs bytes (record { before = pairs; key = key } ∷ frames) empty within
  same_open = record { forth = λ d c. open_forth c.0 c.1 d c.2 c.3; back = open_back }

-- the innermost list closed
module _ (frame : Frame) (frames : List Frame) (pairs : Document) (bytes behind : List ℕ) (is_close : CloseStands bytes behind) where
  close_forth : (more : Document) (rest : List ℕ) (d : Document) → PairsStand more bytes rest → Ends (frame ∷ frames) (append pairs more) rest d → Completes frames (closed frame pairs) behind d
  close_forth empty rest d s e =
      let same : e.0 ≡ behind = close_one bytes e.0 behind (subst (λ (r : List ℕ). CloseStands r e.0) (sym s) e.1) is_close in
      subst (λ (r : List ℕ). Completes frames (closed frame pairs) r d) same
      (subst (λ (p : Document). Completes frames (closed frame p) e.0 d) (append-empty pairs) e.2)
  close_forth (number k t more) rest d s e = absurd (key_stops k bytes s.0 s.2 (inr (behind, is_close)))
  close_forth (string k t more) rest d s e = absurd (key_stops k bytes s.0 s.2 (inr (behind, is_close)))
  close_forth (list k inner more) rest d s e = absurd (key_stops k bytes s.0 s.4 (inr (behind, is_close)))

  pub same_close : Same (frame ∷ frames) pairs bytes frames (closed frame pairs) behind
  same_close =
      record {
        forth = λ d c. close_forth c.0 c.1 d c.2 c.3;
        back = λ d c. (
          empty,
          bytes,
          refl,
          (behind, is_close, subst (λ (p : Document). Completes frames (closed frame p) behind d) (sym (append-empty pairs)) c),
        );
      }

-- the end
over_none : (pairs more : Document) (bytes rest : List ℕ) (d : Document) → is_gap true bytes ≡ true → PairsStand more bytes rest → d ≡ append pairs more → d ≡ pairs
over_none pairs empty bytes rest d last s e = e ∙ append-empty pairs
over_none pairs (number k t more) bytes rest d last s e = absurd (key_stops k bytes s.0 s.2 (inl last))
over_none pairs (string k t more) bytes rest d last s e = absurd (key_stops k bytes s.0 s.2 (inl last))
over_none pairs (list k inner more) bytes rest d last s e = absurd (key_stops k bytes s.0 s.4 (inl last))

pub over_forth : (pairs : Document) (bytes : List ℕ) (d : Document) → is_gap true bytes ≡ true → Completes [] pairs bytes d → d ≡ pairs
over_forth pairs bytes d last c = over_none pairs c.0 bytes c.1 d last c.2 c.3.1

pub over_back : (pairs : Document) (bytes : List ℕ) → is_gap true bytes ≡ true → Completes [] pairs bytes pairs
over_back pairs bytes last = (empty, bytes, refl, (last, sym (append-empty pairs)))

-- a list is open at the end
over_list : (more : Document) (bytes rest behind : List ℕ) → is_gap true bytes ≡ true → PairsStand more bytes rest → CloseStands rest behind → ⊥
over_list empty bytes rest behind last s c = close_last bytes behind (subst (λ (r : List ℕ). CloseStands r behind) (sym s) c) last
over_list (number k t more) bytes rest behind last s c = key_stops k bytes s.0 s.2 (inl last)
over_list (string k t more) bytes rest behind last s c = key_stops k bytes s.0 s.2 (inl last)
over_list (list k inner more) bytes rest behind last s c = key_stops k bytes s.0 s.4 (inl last)

pub over_open : (frames : List Frame) (frame : Frame) (pairs : Document) (bytes : List ℕ) (d : Document) → is_gap true bytes ≡ true → Completes (frame ∷ frames) pairs bytes d → ⊥
over_open frames frame pairs bytes d last c = over_list c.0 bytes c.1 c.3.0 last c.2 c.3.1

-- a closing bracket with no list open
close_more : (more : Document) (bytes rest behind : List ℕ) → CloseStands bytes behind → PairsStand more bytes rest → is_gap true rest ≡ true → ⊥
close_more empty bytes rest behind c s last = close_last bytes behind c (subst (λ (r : List ℕ). is_gap true r ≡ true) (sym s) last)
close_more (number k t more) bytes rest behind c s last = key_stops k bytes s.0 s.2 (inr (behind, c))
close_more (string k t more) bytes rest behind c s last = key_stops k bytes s.0 s.2 (inr (behind, c))
close_more (list k inner more) bytes rest behind c s last = key_stops k bytes s.0 s.4 (inr (behind, c))

pub close_none : (pairs : Document) (bytes behind : List ℕ) (d : Document) → CloseStands bytes behind → Completes [] pairs bytes d → ⊥
close_none pairs bytes behind d is_close c = close_more c.0 bytes c.1 behind is_close c.2 c.3.0
