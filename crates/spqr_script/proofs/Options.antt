-- What an option that is `Some` says of the steps that made it.
use Rattle.std.proofs.Common.{◌≡◌, ℕ, Bool, true, false, cond, List, [], ◌∷◌, ◌++◌, Option, Some, None, refl}
use Rattle.std.specs.Option.{option_map}
use Rattle.std.proofs.lemmas.Option.{same_Some, none-some}
use Rattle.gml_graph.specs.Start.{with_first}
use Rattle.spqr_script.specs.Reading.{pair_of, is_above, entry_then}

-- a chosen option that is Some was chosen by the test
pub cond_some_of : {A : Type 0} (b : Bool) (o : Option A) (y : A) → cond b o None ≡ Some y → (b ≡ true) × (o ≡ Some y)
cond_some_of true o y e = (refl, e)
cond_some_of false o y e = absurd (none-some y e)

pub map_some : {A B : Type 0} (f : A → B) (o : Option A) (y : B) → option_map f o ≡ Some y → (x : A) × (o ≡ Some x) × (f x ≡ y)
map_some f None y e = absurd (none-some y e)
map_some f (Some x) y e = (x, refl, same_Some (f x) y e)

pub first_some : {A : Type 0} (o : Option A) (others : Option (List A)) (ys : List A) → with_first o others ≡ Some ys → (x : A) × (xs : List A) × (o ≡ Some x) × (others ≡ Some xs) × (x ∷ xs ≡ ys)
first_some None others ys e = absurd (none-some ys e)
first_some (Some x) others ys e = let p = map_some (λ xs. x ∷ xs) others ys e in (x, p.0, refl, p.1, p.2)

pub pair_some : (o : Option ℕ) (edges : Option (List ℕ)) (entry : ℕ × List ℕ) → pair_of o edges ≡ Some entry → (v : ℕ) × (es : List ℕ) × (o ≡ Some v) × (edges ≡ Some es) × ((v, es) ≡ entry)
pair_some None edges entry e = absurd (none-some entry e)
pair_some (Some v) edges entry e = let p = map_some (λ es. (v, es)) edges entry e in (v, p.0, refl, p.1, p.2)

pub then_some : (so_far : List (ℕ × List ℕ)) (o : Option (ℕ × List ℕ)) (further : List (ℕ × List ℕ) → Option (List (ℕ × List ℕ))) (ys : List (ℕ × List ℕ)) → entry_then so_far o further ≡ Some ys
    → (next : ℕ × List ℕ) × (o ≡ Some next) × (is_above so_far next.0 ≡ true) × (further (so_far ++ next ∷ []) ≡ Some ys)
then_some so_far None further ys e = absurd (none-some ys e)
then_some so_far (Some next) further ys e = let p = cond_some_of (is_above so_far next.0) (further (so_far ++ next ∷ [])) ys e in (next, refl, p.0, p.1)
