-- Fronts of documents: those of a front are fronts, bytes have one longest, and where bytes break off is its end.
use Rattle.std.proofs.Common.{◌≡◌, ℕ, zero, suc, ◌-◌, ◌<◌, ◌≤◌, List, [], ◌∷◌, ◌++◌, length, take, refl, sym, ap, subst, ◌∙◌, inl, inr, arith, append_assoc}
use Rattle.std.proofs.lemmas.Bool.{cases_lt}
use Rattle.std.proofs.lemmas.List.{append-nil, length-append, take_all, take_at}
use Rattle.gml_text.specs.Document.{Document}
use Rattle.gml_text.specs.Grammar.{Spells}
use Rattle.gml_text.specs.Breaks.{Breaks}
use Rattle.gml_text.specs.Front.{Front, At}
use Rattle.gml_text.specs.Faults.{IsNoDocument, IsFault}
use Rattle.gml_text.specs.declared.document.GmlFault.{GmlFault}
use Rattle.gml_text.specs.declared.document.GmlFault.TheVariants.{Bad, End, Memory}

-- the bytes spell a document
abbrev pub IsDocument : List ℕ → Type 0
IsDocument bytes = (d : Document) × Spells bytes d

-- fronts of a front
pub front_front : (front more : List ℕ) → Front (front ++ more) → Front front
front_front front more f = (more ++ f.0, f.1, subst (λ (xs : List ℕ). Spells xs f.1) (append_assoc front more f.0) f.2)

-- one place at most
pub at_one : (bytes : List ℕ) (m n : ℕ) → At bytes m → At bytes n → m ≡ n
at_one bytes m n a b = omega (arith, a.longest n b.within b.front, b.longest m a.within a.front)

-- a document is its own longest front
pub whole_at : (bytes : List ℕ) (d : Document) → Spells bytes d → At bytes (length bytes)
whole_at bytes d s =
    record {
      within = omega arith;
      front = ([], d, subst (λ (xs : List ℕ). Spells xs d) (sym (append-nil (take (length bytes) bytes) ∙ take_all (length bytes) bytes (omega arith))) s);
      longest = λ n within f. within;
    }

-- one fault at most
pub fault_one : (bytes : List ℕ) (one other : GmlFault) → IsFault one bytes → IsFault other bytes → (one ≡ Memory → ⊥) → (other ≡ Memory → ⊥) → one ≡ other
fault_one bytes (Bad m) (Bad n) p q of_one of_other = ap (λ (at : ℕ). Bad at) (at_one bytes m n p.1 q.1)
fault_one bytes (Bad m) (End n) p q of_one of_other = absurd (omega (arith, at_one bytes m n p.1 q.1, p.2, q.2))
fault_one bytes (End m) (Bad n) p q of_one of_other = absurd (omega (arith, at_one bytes m n p.1 q.1, p.2, q.2))
fault_one bytes (End m) (End n) p q of_one of_other = ap (λ (at : ℕ). End at) (at_one bytes m n p.1 q.1)
fault_one bytes Memory other p q of_one of_other = absurd (of_one refl)
fault_one bytes (Bad m) Memory p q of_one of_other = absurd (of_other refl)
fault_one bytes (End m) Memory p q of_one of_other = absurd (of_other refl)

-- a prefix that is longer than the front has the next byte too
record NextByte (front tail prefix : List ℕ) : Type 0 where
  pub byte : ℕ
  pub rest : List ℕ
  pub others : List ℕ
  pub of_tail : tail ≡ byte ∷ rest
  pub of_prefix : prefix ≡ front ++ (byte ∷ others)

next_byte : (front tail : List ℕ) (n : ℕ) → length front < n → n ≤ length (front ++ tail) → NextByte front tail (take n (front ++ tail))
next_byte [] [] n longer within = absurd (omega arith)
next_byte [] (b ∷ bs) zero longer within = absurd (omega arith)
next_byte [] (b ∷ bs) (suc n) longer within = record { byte = b; rest = bs; others = take n bs; of_tail = refl; of_prefix = refl }
next_byte (c ∷ cs) tail zero longer within = absurd (omega arith)
next_byte (c ∷ cs) tail (suc n) longer within =
    let next = next_byte cs tail n (omega arith) (omega arith) in
    record { byte = next.byte; rest = next.rest; others = next.others; of_tail = next.of_tail; of_prefix = ap (λ (xs : List ℕ). c ∷ xs) next.of_prefix }

module _ (bytes : List ℕ) (left : ℕ) (b : Breaks IsDocument IsNoDocument bytes left) where
  front_length : length b.front ≡ length bytes - left
  front_length = omega (arith, ap length b.split, length-append b.front b.tail, b.count)

  take_front : take (length bytes - left) bytes ≡ b.front
  take_front = ap (take (length bytes - left)) b.split ∙ take_at b.front b.tail (length bytes - left) front_length

  no_longer : (n : ℕ) → n ≤ length bytes → length b.front < n → Front (take n bytes) → ⊥
  no_longer n within longer f =
      let next = next_byte b.front b.tail n longer (omega (arith, ap length b.split)) in
      let prefix : take n bytes ≡ b.front ++ (next.byte ∷ next.others) = ap (take n) b.split ∙ next.of_prefix in
      let text : take n bytes ++ f.0 ≡ b.front ++ (next.byte ∷ (next.others ++ f.0)) = ap (λ (xs : List ℕ). xs ++ f.0) prefix ∙ append_assoc b.front (next.byte ∷ next.others) f.0 in
      b.breaks next.byte next.rest (next.others ++ f.0) next.of_tail f.1 (subst (λ (xs : List ℕ). Spells xs f.1) text f.2)

  -- where bytes break off is the end of their longest front
  pub breaks_at : At bytes (length bytes - left)
  breaks_at =
      record {
        within = omega arith;
        front = (b.more, b.whole.0, subst (λ (xs : List ℕ). Spells (xs ++ b.more) b.whole.0) (sym take_front) b.whole.1);
        longest = λ n within f. elim (cases_lt (length b.front) n) [
          | inl longer ↦ absurd (no_longer n within longer f)
          | inr most ↦ omega (arith, front_length)
        ];
      }
