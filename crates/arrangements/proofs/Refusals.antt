-- A list of edges is an arrangement, or a block is the least whose cyclic order it changes, or two blocks are the least that cross.
use Rattle.std.proofs.Common.{◌≡◌, ℕ, ◌<◌, ◌≤◌, ◌⊎◌, inl, inr, Bool, true, false, not, List, [], ◌∷◌, refl, sym, ap, ◌∙◌, subst, arith}
use Rattle.std.specs.List.{list_all}
use Rattle.std.proofs.lemmas.Bool.{cases_Bool, cases_lt, cases_order, both_ways, not-true, not-false, true≢false, false_from_ne_true}
use Rattle.permutations.specs.Members.{is_member}
use Rattle.permutations.proofs.Members.{member-head, member-tail, member-cases}
use Rattle.arrangements.specs.Arranged.{keeps, cross, is_arranged}
use Rattle.arrangements.specs.Refused.{IsLeastChanged, IsLeastCrossing}
use Rattle.arrangements.proofs.Lists.{all-passes, some-fails}
use Rattle.arrangements.proofs.Changes.{cross-edges}
use Rattle.arrangements.proofs.Listed.{parts-arranged}

-- a member that fails, and none with a smaller key does
pub record LeastFailing (p : ℕ → Bool) (key : ℕ → ℕ) (l : List ℕ) : Type 0 where
  pub x : ℕ
  pub met : is_member x l ≡ true
  pub fails : p x ≡ false
  pub least : (y : ℕ) → is_member y l ≡ true → key y < key x → p y ≡ true

-- all members pass, or there is such a one
pub least-failing : (p : ℕ → Bool) (key : ℕ → ℕ) (l : List ℕ) → ((x : ℕ) → is_member x l ≡ true → p x ≡ true) ⊎ LeastFailing p key l
least-failing p key [] = inl (λ x m. absurd (true≢false (sym m)))
least-failing p key (y ∷ l) = at (cases_Bool (p y)) (least-failing p key l)
  where
    at : (p y ≡ true) ⊎ (p y ≡ false) → ((x : ℕ) → is_member x l ≡ true → p x ≡ true) ⊎ LeastFailing p key l → ((x : ℕ) → is_member x (y ∷ l) ≡ true → p x ≡ true) ⊎ LeastFailing p key (y ∷ l)
    at (inl t) (inl a) = inl (λ x m. elim (member-cases x y l m) [ inl e ↦ subst (λ (z : ℕ). p z ≡ true) e t | inr n ↦ a x n ])
    at (inl t) (inr w) = inr (record {
      x = w.x;
      met = member-tail w.x y l w.met;
      fails = w.fails;
      least = λ z m h. elim (member-cases z y l m) [ inl e ↦ subst (λ (v : ℕ). p v ≡ true) e t | inr n ↦ w.least z n h ];
    })
    at (inr f) (inl a) = inr (record {
      x = y;
      met = member-head y l;
      fails = f;
      least = λ z m h. elim (member-cases z y l m) [ inl e ↦ absurd (omega (arith, h, ap key e)) | inr n ↦ a z n ];
    })
    at (inr f) (inr w) = elim (cases_lt (key y) (key w.x)) [
      | inl s ↦ inr (record {
        x = y;
        met = member-head y l;
        fails = f;
        least = λ z m h. elim (member-cases z y l m) [ inl e ↦ absurd (omega (arith, h, ap key e)) | inr n ↦ w.least z n (omega (arith, h, s)) ];
      })
      | inr g ↦ inr (record {
        x = w.x;
        met = member-tail w.x y l w.met;
        fails = w.fails;
        least = λ z m h. elim (member-cases z y l m) [ inl e ↦ absurd (omega (arith, h, g, ap key e)) | inr n ↦ w.least z n h ];
      })
    ]

-- each block keeps its cyclic order, or there is a least one that does not
pub kept-or_changed : (block : ℕ → ℕ) (order : ℕ → List ℕ) (l : List ℕ) → ((e : ℕ) → is_member e l ≡ true → keeps block order (block e) l ≡ true) ⊎ ((b : ℕ) × IsLeastChanged block order l b)
kept-or_changed block order l = elim (least-failing (λ e. keeps block order (block e) l) block l) [
  | inl a ↦ inl a
  | inr w ↦ inr (block w.x, record { edge = w.x; met = w.met; of_edge = refl; changed = w.fails; least = w.least })
]

-- no blocks cross, or there are two least ones that do
pub apart-or_crossing : (block : ℕ → ℕ) (l : List ℕ) → ((b c : ℕ) → cross block b c l ≡ false) ⊎ ((b : ℕ) × (c : ℕ) × IsLeastCrossing block l b c)
apart-or_crossing block l = elim (least-failing rows block l) [
  | inl a ↦ inl (λ b c. false_from_ne_true (cross block b c l) (λ t. none a b c t (cross-edges block b c l t)))
  | inr w ↦ inr (pair w (least-failing (λ x. not (cross block (block w.x) (block x) l)) block l))
]
  where
    rows : ℕ → Bool
    rows e = list_all (λ x. not (cross block (block e) (block x) l)) l

    -- edges of blocks that cross
    Edges : ℕ → ℕ → Type 0
    Edges b c = (x : ℕ) × (y : ℕ) × (is_member x l ≡ true) × (is_member y l ≡ true) × (block x ≡ b) × (block y ≡ c)

    -- a test that passes one of them excludes the other
    excluded : (b c : ℕ) → cross block b c l ≡ true → (w : Edges b c) → not (cross block (block w.0) (block w.1) l) ≡ true → ⊥
    excluded b c t w n = both_ways (cross block b c l)
        (subst (λ (z : ℕ). cross block b z l ≡ false) w.5 (subst (λ (z : ℕ). cross block z (block w.1) l ≡ false) w.4 (not-true (cross block (block w.0) (block w.1) l) n))) t

    none : ((e : ℕ) → is_member e l ≡ true → rows e ≡ true) → (b c : ℕ) → cross block b c l ≡ true → Edges b c → ⊥
    none a b c t w = excluded b c t w (all-passes (λ x. not (cross block (block w.0) (block x) l)) l w.1 (a w.0 w.2) w.3)

    pair : (w : LeastFailing rows block l) → ((x : ℕ) → is_member x l ≡ true → not (cross block (block w.x) (block x) l) ≡ true) ⊎ LeastFailing (λ x. not (cross block (block w.x) (block x) l)) block l
        → (b : ℕ) × (c : ℕ) × IsLeastCrossing block l b c
    pair w (inl a) = let s = some-fails (λ x. not (cross block (block w.x) (block x) l)) l w.fails in absurd (both_ways (not (cross block (block w.x) (block s.0) l)) s.2 (a s.0 s.1))
    pair w (inr v) = (block w.x, block v.x, record { crosses = not-false (cross block (block w.x) (block v.x) l) v.fails; least = λ d e t. least d e t (cross-edges block d e l t) })
      where
        least : (d e : ℕ) → cross block d e l ≡ true → Edges d e → (block w.x < d) ⊎ ((block w.x ≡ d) × (block v.x ≤ e))
        least d e t s = elim (cases_order (block w.x) d) [
          | inr q ↦ elim q [
            | inl a ↦ inl a
            | inr a ↦ absurd (excluded d e t s (all-passes (λ x. not (cross block (block s.0) (block x) l)) l s.1 (w.least s.0 s.2 (omega (arith, a, s.4))) s.3))
          ]
          | inl q ↦ elim (cases_lt e (block v.x)) [
            | inr g ↦ inr (q, g)
            | inl a ↦ absurd (excluded d e t s (subst (λ (z : ℕ). not (cross block z (block s.1) l) ≡ true) (q ∙ sym s.4) (v.least s.1 s.3 (omega (arith, a, s.5)))))
          ]
        ]

-- an arrangement, or why it is not one
pub arranged-or_refused : (block : ℕ → ℕ) (order : ℕ → List ℕ) (l : List ℕ)
    → (is_arranged block order l ≡ true) ⊎ (((b : ℕ) × IsLeastChanged block order l b) ⊎ (((e : ℕ) → is_member e l ≡ true → keeps block order (block e) l ≡ true) × ((b : ℕ) × (c : ℕ) × IsLeastCrossing block l b c)))
arranged-or_refused block order l = elim (kept-or_changed block order l) [
  | inr w ↦ inr (inl w)
  | inl k ↦ elim (apart-or_crossing block l) [
    | inl a ↦ inl (parts-arranged block order l k (λ e x m n. a (block e) (block x)))
    | inr w ↦ inr (inr (k, w))
  ]
]
