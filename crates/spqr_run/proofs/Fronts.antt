-- Laws of fronts of texts.
use Rattle.std.proofs.Common.{◌≡◌, ℕ, List, ◌++◌, Option, take, drop, sym, ap, ◌∙◌, append_assoc, take-append-drop}
use Rattle.std.specs.Io.KnownBytes.{Appends}
use Rattle.std.proofs.KnownBytes.{Appends-trans}

-- all of the text but this rest was written
pub record AppendsAllBut (before now : Option (List ℕ)) (text rest : List ℕ) : Type 0 where
  pub front : List ℕ
  pub whole : text ≡ front ++ rest
  pub written : Appends before now front

-- a piece of the rest more
pub piece_written : (before mid now : Option (List ℕ)) (text rest : List ℕ) (n : ℕ) → AppendsAllBut before mid text rest → Appends mid now (take n rest) → AppendsAllBut before now text (drop n rest)
piece_written before mid now text rest n s a =
    record {
      front = s.front ++ take n rest;
      whole = s.whole ∙ ap (λ l. s.front ++ l) (sym (take-append-drop n rest)) ∙ sym (append_assoc s.front (take n rest) (drop n rest));
      written = Appends-trans before mid now s.front (take n rest) s.written a;
    }
