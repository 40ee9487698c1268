-- What is said of sorted darts and of cuts does not depend on the names of the entries.
use Rattle.std.proofs.Common.{◌≡◌, ℕ, zero, suc, ◌++◌, ◌∷◌, [], ◌<◌, ◌≤◌, inl, inr, ◌||◌, ◌==◌, if◌then◌else◌, List, length, take, refl, sym, ap₂, ◌∙◌, arith}
use Rattle.std.proofs.Math.Seq.{take-suc}
use Rattle.pair_split.specs.Family.{has_end}
use Rattle.split_comp.specs.declared.items.StackEntry.{StackEntry}
use Rattle.split_comp.specs.declared.items.StackCut.{StackCut}
use Rattle.split_comp.specs.Stack.{no_item, item, entry, owner}
use Rattle.split_comp.specs.Cuts.{cut, IsLeastUp, IsAcross, IsBefore, IsStart, IsFirstBelow, IsChain, AreSound, AreComplete}

-- the same entries but for their names
pub record IsAlike (one other : List StackEntry) : Type 0 where
  pub size : length one ≡ length other
  pub up : (i : ℕ) → (item one i).up ≡ (item other i).up
  pub low : (i : ℕ) → (item one i).low ≡ (item other i).low
  pub tree : (i : ℕ) → (item one i).tree ≡ (item other i).tree
  pub start : (i : ℕ) → (item one i).start ≡ (item other i).start

pub alike-sym : (one other : List StackEntry) → IsAlike one other → IsAlike other one
alike-sym one other a = record { size = sym a.size; up = λ i. sym (a.up i); low = λ i. sym (a.low i); tree = λ i. sym (a.tree i); start = λ i. sym (a.start i) }

-- alike up to n, and no longer
pub alike-take : (one other : List StackEntry) (n : ℕ) → n ≤ length one → n ≤ length other → ((i : ℕ) → i < n → item one i ≡ item other i) → take n one ≡ take n other
alike-take one other zero a b h = refl
alike-take one other (suc n) a b h = take-suc one n no_item (omega (arith, a)) ∙ (ap₂ (λ (l : List StackEntry) (y : StackEntry). l ++ y ∷ []) (alike-take one other n (omega (arith, a)) (omega (arith, b)) (λ i l. h i (omega (arith, l)))) (h n (omega arith)) ∙ sym (take-suc other n no_item (omega (arith, b))))

module _ (one other : List StackEntry) (a : IsAlike one other) where
  owner-same : (i : ℕ) → owner (item one i) ≡ owner (item other i)
  owner-same i = λ t. (if a.tree i t then a.up i t else a.low i t)

  end-same : (z i : ℕ) → has_end z (entry (item one i)) ≡ has_end z (entry (item other i))
  end-same z i = λ t. (a.up i t == z) || (a.low i t == z)

  pub alike-least : (t x : ℕ) → IsLeastUp one t x → IsLeastUp other t x
  alike-least t x l = record { least = λ i m w. omega (arith, a.up i, l.least i m (omega (arith, a.size, w))); place = l.place; from = l.from; within = omega (arith, a.size, l.within); attained = sym (a.up l.place) ∙ l.attained }

  pub alike-before : (t z : ℕ) → IsBefore one t z → IsBefore other t z
  alike-before t z b = record { place = b.place; within = b.within; end = sym (end-same z b.place) ∙ b.end }

  pub alike-across : (t z : ℕ) → IsAcross one t z → IsAcross other t z
  alike-across t z b = record { low = b.low; low_within = b.low_within; low_end = sym (end-same z b.low) ∙ b.low_end; high = b.high; high_from = b.high_from; high_within = omega (arith, a.size, b.high_within); high_end = sym (end-same z b.high) ∙ b.high_end }

  pub alike-start : (b t : ℕ) → IsStart one b t → IsStart other b t
  alike-start b t s = record { place = s.place; within = omega (arith, a.size, s.within); owned = sym (owner-same s.place) ∙ s.owned; starts = sym (a.start s.place) ∙ s.starts }

  pub alike-below : (s b : ℕ) → IsFirstBelow one s b → IsFirstBelow other s b
  alike-below s b f = record { place = f.place; tree_at = record { within = omega (arith, a.size, f.tree_at.within); tree = sym (a.tree f.place) ∙ f.tree_at.tree; low = sym (a.low f.place) ∙ f.tree_at.low }; starts = sym (a.start f.place) ∙ f.starts }

  pub alike-chain : (cuts : List StackCut) → IsChain one cuts → IsChain other cuts
  alike-chain cuts c = record { starts_rise = c.starts_rise; ups_rise = c.ups_rise; lows_fall = c.lows_fall; met = λ k l. let m = c.met k l in (m.0, m.1, m.2, omega (arith, a.size, m.3), sym (a.up m.0) ∙ m.4) }

pub alike-sound : (one other : List StackEntry) → IsAlike one other → (s x : ℕ) (cuts : List StackCut) → AreSound s x one cuts → AreSound s x other cuts
alike-sound one other a s x cuts h = record {
  each = λ k l. let c = h.each k l in record {
    from = c.from;
    within = omega (arith, a.size, c.within);
    starts = alike-start one other a (cut cuts k).low (cut cuts k).start c.starts;
    below = elim c.below [ inl e ↦ inl e | inr f ↦ inr (alike-below one other a s (cut cuts k).low f) ];
    least = alike-least one other a (cut cuts k).start (cut cuts k).up c.least;
    up = c.up;
    across = λ z m w. c.across z m (alike-across other one (alike-sym one other a) (cut cuts k).start z w);
    own = λ n w. c.own n (alike-before other one (alike-sym one other a) (cut cuts k).start x w);
  };
  chain = alike-chain one other a cuts h.chain;
}

pub alike-complete : (one other : List StackEntry) → IsAlike one other → (s x : ℕ) (cuts : List StackCut) → AreComplete s x one cuts → AreComplete s x other cuts
alike-complete one other a s x cuts h = λ t u b w f l. let d = alike-sym one other a in h t u b (record {
  from = w.from;
  starts = alike-start other one d b t w.starts;
  least = alike-least other one d t u w.least;
  free = λ y m n o. w.free y m n (alike-before one other a t y o);
}) (elim f [ inl e ↦ inl e | inr g ↦ inr (alike-below other one d s b g) ]) l
