-- The lines of numbered things, one after another.
use Rattle.std.proofs.Common.{◌≡◌, ℕ, ◌+◌, ◌<◌, List, [], ◌∷◌, ◌++◌, length, map, take, get_or, length-take-le, sym, ap, ◌∙◌, append_assoc, append-nil, add-one, arith}
use Rattle.std.proofs.Math.Seq.{take-suc}
use Rattle.std.specs.List.{concat}
use Rattle.std.proofs.lemmas.List.{map-append, get_or-map}
use Rattle.std.proofs.lemmas.List.Folds.{concat-append}
use Rattle.multigraph.specs.Graph.{numbers_below}
use Rattle.multigraph.proofs.Below.{numbers_below-more}
use Rattle.spqr_session.specs.Head.{numbered}

module _ {X : Type 0} (line : ℕ → X → List ℕ) where
  -- one thing more
  numbered-more : (n : ℕ) (xs : List X) (x : X) → numbered line n (xs ++ x ∷ []) ≡ numbered line n xs ++ line (n + length xs) x
  numbered-more n [] x = append-nil (line n x) ∙ ap (λ (k : ℕ). line k x) (let e : n ≡ n + 0 = omega arith in e)
  numbered-more n (y ∷ xs) x =
      ap (λ l. line n y ++ l) (numbered-more (n + 1) xs x ∙ ap (λ (k : ℕ). numbered line (n + 1) xs ++ line k x) (let e : n + 1 + length xs ≡ n + length (y ∷ xs) = omega arith in e))
      ∙ sym (append_assoc (line n y) (numbered line (n + 1) xs) (line (n + length (y ∷ xs)) x))

  -- the line of the thing at place i behind those before it
  pub numbered-take : (xs : List X) (i : ℕ) (x : X) → i < length xs → get_or xs i x ≡ x → numbered line 0 (take (i + 1) xs) ≡ numbered line 0 (take i xs) ++ line i x
  numbered-take xs i x h e =
      ap (numbered line 0) (rw add-one (take-suc xs i x h) ∙ ap (λ (y : X). take i xs ++ y ∷ []) e) ∙ numbered-more 0 (take i xs) x
      ∙ ap (λ (k : ℕ). numbered line 0 (take i xs) ++ line k x) (let l : length (take i xs) ≡ i = length-take-le i xs (omega arith) in let m : 0 + length (take i xs) ≡ i = omega arith in m)

-- the text of one number more
pub below-more : (f : ℕ → List ℕ) (k : ℕ) → concat (map f (numbers_below (k + 1))) ≡ concat (map f (numbers_below k)) ++ f k
below-more f k =
    ap (λ (l : List ℕ). concat (map f l)) (numbers_below-more k) ∙ ap concat (map-append f (numbers_below k) (k ∷ [])) ∙ concat-append (map f (numbers_below k)) (f k ∷ [])
    ∙ ap (λ l. concat (map f (numbers_below k)) ++ l) (append-nil (f k))

-- the first i + 1 texts are the first i and the one behind them
pub concat-take_more : (texts : List (List ℕ)) (i : ℕ) (t : List ℕ) → i < length texts → get_or texts i t ≡ t → concat (take (i + 1) texts) ≡ concat (take i texts) ++ t
concat-take_more texts i t h e =
    rw add-one (ap concat (take-suc texts i t h ∙ ap (λ x. take i texts ++ x ∷ []) e) ∙ concat-append (take i texts) (t ∷ []) ∙ ap (λ l. concat (take i texts) ++ l) (append-nil t))

-- the text of an element
pub text_at : {X : Type 0} (f : X → List ℕ) (xs : List X) (i : ℕ) (x : X) → i < length xs → get_or xs i x ≡ x → get_or (map f xs) i (f x) ≡ f x
text_at f xs i x h e = get_or-map f xs i x (f x) h ∙ ap f e
