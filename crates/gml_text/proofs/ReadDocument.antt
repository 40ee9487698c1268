-- From the bytes that have been read to the document that all of them spell.
use Rattle.std.proofs.Common.{◌≡◌, ℕ, ◌-◌, ◌≤◌, Bool, true, false, cond, eqb, List, [], ◌∷◌, ◌++◌, length, refl, sym, ap, subst, ◌∙◌, inr, arith, append_assoc}
use Rattle.gml_text.specs.Document.{Document, empty, number, string, list, IsWithinDepth}
use Rattle.gml_text.specs.Grammar.{PairsStand, Spells}
use Rattle.gml_text.specs.WellFormed.{AreTokens, IsWellFormed}
use Rattle.gml_text.specs.Reading.{Follows}
use Rattle.gml_text.specs.Breaks.{Breaks}
use Rattle.gml_text.specs.Front.{At}
use Rattle.std.proofs.lemmas.Bool.{eqb-true, eqb-false}
use Rattle.gml_text.specs.Faults.{IsNoDocument, IsFault}
use Rattle.gml_text.specs.declared.document.GmlFault.{GmlFault}
use Rattle.gml_text.specs.declared.document.GmlFault.TheVariants.{Bad, End}
use Rattle.gml_text.specs.Partial.{Completes, pairs_of, Advances, IsOver, NeverFinishes, IsRefused, IsRead}
use Rattle.gml_text.specs.declared.partial.Partial.{Partial}
use Rattle.gml_text.proofs.OtherRest.{alike_front, alike_byte, follows_same}
use Rattle.gml_text.proofs.Fronts.{IsDocument, breaks_at}

-- the pairs that stand somewhere have keys for keys, and numbers for numbers
pub pairs_tokens : (d : Document) (bytes rest : List ℕ) → PairsStand d bytes rest → AreTokens d
pairs_tokens empty bytes rest s = tt
pairs_tokens (number key text more) bytes rest s = (s.2.is_key, s.3.is_number, pairs_tokens more s.1 rest s.4)
pairs_tokens (string key text more) bytes rest s = (s.2.is_key, s.3.no_quote, pairs_tokens more s.1 rest s.4)
pairs_tokens (list key inner more) bytes rest s = (s.4.is_key, pairs_tokens inner s.1 s.2 s.6, pairs_tokens more s.3 rest s.8)

-- a document that is spelled has a text
pub spells_well_formed : (bytes : List ℕ) (d : Document) → Spells bytes d → IsWellFormed d
spells_well_formed bytes d s = record { tokens = pairs_tokens d bytes s.rest s.pairs; depth = s.depth }

-- all of the bytes complete a document exactly where they spell it, but for its depth
spells_of : (bytes : List ℕ) (d : Document) → Completes [] empty bytes d → IsWithinDepth d → Spells bytes d
spells_of bytes d c within =
    record { rest = c.1; pairs = subst (λ (p : Document). PairsStand p bytes c.1) (sym c.3.1) c.2; gap = c.3.0; depth = within }

of_spells : (bytes : List ℕ) (d : Document) → Spells bytes d → Completes [] empty bytes d
of_spells bytes d s = (d, s.rest, s.pairs, (s.gap, refl))

-- one item more
pub read_more : (bytes rest behind : List ℕ) (p q : Partial) → IsRead bytes p rest → Advances p rest q behind → IsRead bytes q behind
read_more bytes rest behind p q r a =
    record {
      read = r.read ++ a.read;
      split = r.split ∙ ap (λ (xs : List ℕ). r.read ++ xs) a.split ∙ sym (append_assoc r.read a.read behind);
      forth = λ more f d c. a.forth more f d (r.forth (a.read ++ more) (follows more) d (subst (λ (xs : List ℕ). Completes [] empty xs d) (append_assoc r.read a.read more) c));
      back = λ more f d c. subst (λ (xs : List ℕ). Completes [] empty xs d) (sym (append_assoc r.read a.read more)) (r.back (a.read ++ more) (follows more) d (a.back more f d c));
      within = a.within;
      shorter = omega (arith, r.shorter, a.shorter);
    }
  where
    follows : (more : List ℕ) → Follows (a.read ++ more) rest
    follows more = subst (λ (xs : List ℕ). Follows (a.read ++ more) xs) (sym a.split) (inr (alike_front a.read more behind a.some))

-- all read
pub read_all : (bytes rest : List ℕ) (p : Partial) → IsRead bytes p rest → IsOver p rest → Spells bytes (pairs_of p)
read_all bytes rest p r o =
    subst (λ (xs : List ℕ). Spells xs (pairs_of p)) (sym r.split)
    (spells_of (r.read ++ rest) (pairs_of p) (r.back rest (follows_same rest) (pairs_of p) o.back) o.within)

-- no document goes on
read_never : (bytes rest more : List ℕ) (p : Partial) (r : IsRead bytes p rest) → Follows more rest → NeverFinishes p more → IsNoDocument (r.read ++ more)
read_never bytes rest more p r follows never d s = never d (r.forth more follows d (of_spells (r.read ++ more) d s)) s.depth

pub read_breaks : (bytes rest : List ℕ) (p : Partial) (left : ℕ) → IsRead bytes p rest → IsRefused p rest left → Breaks IsDocument IsNoDocument bytes left
read_breaks bytes rest p left r b =
    record {
      front = r.read ++ b.front;
      tail = b.tail;
      split = r.split ∙ ap (λ (xs : List ℕ). r.read ++ xs) b.split ∙ sym (append_assoc r.read b.front b.tail);
      count = b.count;
      more = b.more;
      whole = (
        b.whole.1,
        subst (λ (xs : List ℕ). Spells xs b.whole.1) (sym (append_assoc r.read b.front b.more))
            (spells_of (r.read ++ (b.front ++ b.more)) b.whole.1 (r.back (b.front ++ b.more) b.whole.0 b.whole.1 b.whole.2) b.whole.3),
      );
      breaks = λ c others more e.
          subst IsNoDocument (sym (append_assoc r.read b.front (c ∷ more)))
          (read_never bytes rest (b.front ++ (c ∷ more)) p r (follows c others more e) (b.breaks c others more e));
      none = subst IsNoDocument (sym r.split) (read_never bytes rest rest p r (follows_same rest) b.none);
    }
  where
    follows : (c : ℕ) (others more : List ℕ) → b.tail ≡ c ∷ others → Follows (b.front ++ (c ∷ more)) rest
    follows c others more e =
        subst (λ (xs : List ℕ). Follows (b.front ++ (c ∷ more)) xs) (sym (b.split ∙ ap (λ (xs : List ℕ). b.front ++ xs) e)) (inr (alike_byte b.front c more others))

-- and the fault says so
fault_at : (t : Bool) (bytes : List ℕ) (left : ℕ) → eqb left 0 ≡ t → Breaks IsDocument IsNoDocument bytes left → left ≤ length bytes → IsFault (cond t (End (length bytes)) (Bad (length bytes - left))) bytes
fault_at true bytes left e b within =
    let all : length bytes - left ≡ length bytes = omega (arith, eqb-true left 0 e) in
    (b.none, subst (λ (n : ℕ). At bytes n) all (breaks_at bytes left b), refl)
fault_at false bytes left e b within = (b.none, breaks_at bytes left b, let some : left ≡ 0 → ⊥ = eqb-false left 0 e in omega arith)

pub fault_is : (bytes : List ℕ) (left : ℕ) (f : GmlFault) → Breaks IsDocument IsNoDocument bytes left → left ≤ length bytes → f ≡ cond (eqb left 0) (End (length bytes)) (Bad (length bytes - left)) → IsFault f bytes
fault_is bytes left f b within e = subst (λ (g : GmlFault). IsFault g bytes) (sym e) (fault_at (eqb left 0) bytes left refl b within)
