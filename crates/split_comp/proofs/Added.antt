-- Entries that are pushed, and joined with the one below.
use Rattle.std.proofs.Common.{◌≡◌, ℕ, Bool, true, false, List, length, refl, ◌∙◌, ap, subst}
use Rattle.std.proofs.lemmas.Bool.{true≢false}
use Rattle.multigraph.specs.Graph.{Multigraph}
use Rattle.split_comp.specs.Pass.{PassState, IsJoined, IsFrondAdded, pushed, new_frond}

-- a frond that was joined
pub frond-whole : (g : Multigraph) (vertex : List ℕ) (name v up start : ℕ) (old self new : PassState) (joined : Bool) → start ≡ length old.items → self ≡ pushed old (record { name = name; up = up; low = v; tree = false; start = start })
    → IsJoined g vertex self new joined → joined ≡ true → IsFrondAdded g vertex name v up old new
frond-whole g vertex name v up start old self new joined h p j t = record {
  joined = true;
  mid = new;
  join = subst (λ (b : Bool). IsJoined g vertex (pushed old (new_frond name v up old)) new b) t (subst (λ (s : PassState). IsJoined g vertex s new joined) (p ∙ ap (λ (k : ℕ). pushed old (record { name = name; up = up; low = v; tree = false; start = k })) h) j);
  whole = λ e. refl;
  noted = λ e. absurd (true≢false e);
}
