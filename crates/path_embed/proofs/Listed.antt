-- The numbers below a bound that are marked increase and are below it.
use Rattle.std.proofs.Common.{◌≡◌, ℕ, ◌<◌, Bool, List, length, filter, slice_index, sym, subst}
use Rattle.multigraph.specs.Graph.{numbers_below}
use Rattle.multigraph.specs.Part.{Rises}
use Rattle.multigraph.proofs.Below.{filter_below-at, filter_below-rises}

-- they increase
pub listed-rises : (p : ℕ → Bool) (n : ℕ) (list : List ℕ) → list ≡ filter p (numbers_below n) → Rises list
listed-rises p n list e = subst Rises (sym e) (λ i j l m. filter_below-rises p n i j 0 l m)

-- they are below the bound
pub listed-below : (p : ℕ → Bool) (n : ℕ) (list : List ℕ) → list ≡ filter p (numbers_below n) → (i : ℕ) → i < length list → slice_index list i < n
listed-below p n list e = subst (λ (z : List ℕ). (i : ℕ) → i < length z → slice_index z i < n) (sym e) (λ i l. (filter_below-at p n i 0 l).0)
