-- What the pass does between two darts leaves it where it stands.
use Rattle.std.proofs.Common.{ℕ, inl, inr, Bool, true, false, List, length, take, Option, None, Some, slice_index, ◌≡◌, ◌+◌, ◌-◌, ◌≤◌, ap, ◌∙◌, arith}
use Rattle.std.proofs.lemmas.Bool.{cases_Bool, cases_lt}
use Rattle.multigraph.specs.Graph.{Multigraph}
use Rattle.std.proofs.lemmas.List.{length-take-le}
use Rattle.split_comp.specs.declared.items.StackCut.{StackCut}
use Rattle.split_comp.specs.Pass.{PassState, IsAsFar, IsCome, IsJoined, IsDartNoted, IsFrondAdded, IsTreeAdded, IsApart, pushed, new_frond, new_tree}

-- joining leaves the cuts
pub joined-cuts : (g : Multigraph) (vertex : List ℕ) (old new : PassState) (joined : Bool) → IsJoined g vertex old new joined → new.cuts ≡ old.cuts
joined-cuts g vertex old new true j = ap (λ (s : PassState). s.cuts) j.1.2 ∙ ap (λ (s : PassState). s.cuts) j.1.1.now
joined-cuts g vertex old new false j = ap (λ (s : PassState). s.cuts) j.0

-- so does a tree edge that is pushed, and a frond that stays apart
pub tree-cuts : (g : Multigraph) (vertex : List ℕ) (name v low start : ℕ) (old new : PassState) → IsTreeAdded g vertex name v low start old new → new.cuts ≡ old.cuts
tree-cuts g vertex name v low start old new a = joined-cuts g vertex (pushed old (new_tree name v low start)) new a.joined a.join

pub apart-cuts : (frond : Option ℕ) (up low start : ℕ) (old new : PassState) → IsApart frond up low start old new → new.cuts ≡ old.cuts
apart-cuts None up low start old new e = ap (λ (s : PassState). s.cuts) e
apart-cuts (Some name) up low start old new e = ap (λ (s : PassState). s.cuts) e

-- one cut is removed at most
pub one-cut : (cuts dropped new : List StackCut) → dropped ≡ take (length cuts - 1) cuts → new ≡ dropped → length cuts ≤ length new + 1
one-cut cuts dropped new d e = omega (arith, ap length d, ap length e, length-take-le (length cuts - 1) cuts (omega arith))

-- what has come back stays there
pub come-through : (v : ℕ) (a b c : PassState) → IsCome v a b → IsAsFar b c → IsCome v a c
come-through v a b c p q = record { at = q.at ∙ p.at; done = q.done ∙ p.done; gone = q.gone ∙ p.gone }

pub joined-far : (g : Multigraph) (vertex : List ℕ) (old new : PassState) (joined : Bool) → IsJoined g vertex old new joined → IsAsFar old new
joined-far g vertex old new true j = record {
  at = ap (λ (s : PassState). s.at) j.1.2 ∙ ap (λ (s : PassState). s.at) j.1.1.now;
  done = ap (λ (s : PassState). s.done) j.1.2 ∙ ap (λ (s : PassState). s.done) j.1.1.now;
  gone = ap (λ (s : PassState). s.gone) j.1.2 ∙ ap (λ (s : PassState). s.gone) j.1.1.now;
}
joined-far g vertex old new false j = record { at = ap (λ (s : PassState). s.at) j.0; done = ap (λ (s : PassState). s.done) j.0; gone = ap (λ (s : PassState). s.gone) j.0 }

pub noted-far : (v s up : ℕ) (old new : PassState) → IsDartNoted v s up old new → IsAsFar old new
noted-far v s up old new n = elim (cases_lt (slice_index old.start v) s) [
  | inl l ↦ let w = (n.later l).2 in record { at = ap (λ (z : PassState). z.at) w; done = ap (λ (z : PassState). z.done) w; gone = ap (λ (z : PassState). z.gone) w }
  | inr l ↦ let w = n.first l in record { at = ap (λ (z : PassState). z.at) w; done = ap (λ (z : PassState). z.done) w; gone = ap (λ (z : PassState). z.gone) w }
]

pub tree-far : (g : Multigraph) (vertex : List ℕ) (name v low start : ℕ) (old new : PassState) → IsTreeAdded g vertex name v low start old new → IsAsFar old new
tree-far g vertex name v low start old new a = let j = joined-far g vertex (pushed old (new_tree name v low start)) new a.joined a.join in record { at = j.at; done = j.done; gone = j.gone }

pub frond-far : (g : Multigraph) (vertex : List ℕ) (name v up : ℕ) (old new : PassState) → IsFrondAdded g vertex name v up old new → IsAsFar old new
frond-far g vertex name v up old new a = elim (cases_Bool a.joined) [
  | inl y ↦ let w = a.whole y in record { at = ap (λ (z : PassState). z.at) w ∙ j.at; done = ap (λ (z : PassState). z.done) w ∙ j.done; gone = ap (λ (z : PassState). z.gone) w ∙ j.gone }
  | inr y ↦ let w = noted-far v (length old.items) up a.mid new (a.noted y) in record { at = w.at ∙ j.at; done = w.done ∙ j.done; gone = w.gone ∙ j.gone }
]
  where
    j : IsAsFar (pushed old (new_frond name v up old)) a.mid
    j = joined-far g vertex (pushed old (new_frond name v up old)) a.mid a.joined a.join
