-- Runs on the way round a vertex: where they begin and end, and what comes of a run that is put elsewhere.
use Rattle.std.proofs.Common.{◌≡◌, ◌≢◌, ℕ, zero, suc, ◌+◌, ◌<◌, ◌≤◌, ◌⊎◌, inl, inr, true, false, List, [], ◌∷◌, ◌++◌, length, reverse, take, slice_index_or, refl, sym, ap, ◌∙◌, subst, arith, append_assoc, append-nil, All, IsPermutation}
use Rattle.std.proofs.lemmas.Bool.{both_ways, true≢false}
use Rattle.std.proofs.lemmas.List.{length-append, reverse-append, take_all}
use Rattle.std.proofs.lemmas.List.Elements.{All-head, All-tail}
use Rattle.std.proofs.lemmas.List.Sorted.{All-permutation, IsPermutation-map, IsPermutation-middle, IsPermutation-sym, length_permutation}
use Rattle.permutations.specs.Cyclic.{first_or, successor, predecessor, turned, from_least, IsTurn}
use Rattle.permutations.specs.Members.{is_member, is_distinct}
use Rattle.permutations.specs.Runs.{joined, group_keys, IsGroup, InRuns}
use Rattle.permutations.proofs.Arrangements.{permutation-distinct, permutation-member, member-at, member-from_contains}
use Rattle.permutations.proofs.Chains.{successor-next}
use Rattle.permutations.proofs.CyclicSame.{IsTurn-trans, IsTurn-head}
use Rattle.permutations.proofs.Members.{member-head, member-tail, member-append_left, member-append_right, member-cases, distinct-append_apart, distinct-append_right, CutAt, cut_at}
use Rattle.permutations.proofs.NormalForm.{from_least-turn}
use Rattle.permutations.proofs.Runs.{first-of, last-of, joined-append, joined-member, first-group, other-groups, runs-turn}
use Rattle.permutations.proofs.Successor.{predecessor-successor}
use Rattle.permutations.proofs.Turned.{IsTurn-sym, IsTurn-swap, IsTurn-member, IsTurn-distinct, IsTurn-successor, IsTurn-length}
use Rattle.multigraph.specs.Graph.{Multigraph, IsGraph, edge_count, incident_edges, is_edge_at}
use Rattle.multigraph.proofs.Incident.{incident-has}
use Rattle.multigraph.proofs.OtherEnd.{edge_at-parts}
use Rattle.rotations.specs.Rotation.{order_at, IsRotationSystem}
use Rattle.rotations.specs.Runs.{IsRun, IsOutside, IsRunMoved}
use Rattle.pair_split.specs.Tutte.{Node, IsTutte}
use Rattle.skeletons.specs.Items.{IsBlockTree}
use Rattle.skeletons.proofs.Moved.{order-edge}
use Rattle.skel_embed.specs.Steps.{EndsRun, BeginsRun, IsPut, StandInTwoRuns}

-- the last member of a list
abbrev pub Ends : ℕ → List ℕ → Type 0
Ends last l = (ahead : List ℕ) × (l ≡ ahead ++ last ∷ [])

-- the first member of a list
abbrev pub Begins : ℕ → List ℕ → Type 0
Begins first l = (behind : List ℕ) × (l ≡ first ∷ behind)

-- a list that is not empty ends with some member
pub some-end : (l : List ℕ) → 0 < length l → (last : ℕ) × Ends last l
some-end l h = let w = last-of l h in (w.1, (w.0, w.2))

-- a list has one last member
pub end-once : (l : List ℕ) (a b : ℕ) → Ends a l → Ends b l → a ≡ b
end-once l a b x y = same x.0 y.0 (sym x.1 ∙ y.1)
  where
    same : (c d : List ℕ) → c ++ a ∷ [] ≡ d ++ b ∷ [] → a ≡ b
    same c d e = ap (first_or a) (sym (reverse-append c (a ∷ [])) ∙ ap reverse e ∙ reverse-append d (b ∷ []))

-- the end of two lists is that of the second
pub end-behind : (k l : List ℕ) (a : ℕ) → Ends a l → Ends a (k ++ l)
end-behind k l a x = (k ++ x.0, ap (λ (z : List ℕ). k ++ z) x.1 ∙ sym (append_assoc k x.0 (a ∷ [])))

pub end-member : (l : List ℕ) (a : ℕ) → Ends a l → is_member a l ≡ true
end-member l a x = ap (is_member a) x.1 ∙ member-append_right a x.0 (a ∷ []) (member-head a [])

pub begin-member : (l : List ℕ) (a : ℕ) → Begins a l → is_member a l ≡ true
begin-member l a x = ap (is_member a) x.1 ∙ member-head a x.0

-- a list is cut at a member in one way
pub cut-once : (a b c d : List ℕ) (x : ℕ) → is_distinct (a ++ x ∷ b) ≡ true → a ++ x ∷ b ≡ c ++ x ∷ d → (a ≡ c) × (b ≡ d)
cut-once [] b [] d x h e = (refl, tails e)
  where
    tails : x ∷ b ≡ x ∷ d → b ≡ d
    tails q = ap (λ (z : List ℕ). rest z) q
      where
        rest : List ℕ → List ℕ
        rest [] = []
        rest (y ∷ z) = z
cut-once [] b (z ∷ c) d x h e = absurd (both_ways (is_member x b) (first-apart h) (ap (is_member x) (tails e) ∙ member-append_right x c (x ∷ d) (member-head x d)))
  where
    tails : x ∷ b ≡ z ∷ (c ++ x ∷ d) → b ≡ c ++ x ∷ d
    tails q = ap (λ (z : List ℕ). rest z) q
      where
        rest : List ℕ → List ℕ
        rest [] = []
        rest (y ∷ z) = z

    first-apart : is_distinct (x ∷ b) ≡ true → is_member x b ≡ false
    first-apart q = distinct-append_apart (x ∷ []) b q x (member-head x [])
cut-once (y ∷ a) b [] d x h e = absurd (both_ways (is_member x (x ∷ b)) (distinct-append_apart (y ∷ a) (x ∷ b) h x (ap (λ z. is_member x (z ∷ a)) (heads e) ∙ member-head x a)) (member-head x b))
  where
    heads : y ∷ (a ++ x ∷ b) ≡ x ∷ d → y ≡ x
    heads q = ap (first_or 0) q
cut-once (y ∷ a) b (z ∷ c) d x h e = let w = cut-once a b c d x (distinct-append_right (y ∷ []) (a ++ x ∷ b) h) (tails e) in (join (heads e) w.0, w.1)
  where
    heads : y ∷ (a ++ x ∷ b) ≡ z ∷ (c ++ x ∷ d) → y ≡ z
    heads q = ap (first_or 0) q

    tails : y ∷ (a ++ x ∷ b) ≡ z ∷ (c ++ x ∷ d) → a ++ x ∷ b ≡ c ++ x ∷ d
    tails q = ap (λ (u : List ℕ). rest u) q
      where
        rest : List ℕ → List ℕ
        rest [] = []
        rest (u ∷ us) = us

    join : y ≡ z → a ≡ c → y ∷ a ≡ z ∷ c
    join p q = ap (λ u. u ∷ a) p ∙ ap (λ (u : List ℕ). z ∷ u) q

-- what follows a member on the way round
pub next-in : (l a : List ℕ) (x y : ℕ) (b : List ℕ) → is_distinct l ≡ true → IsTurn l (a ++ x ∷ y ∷ b) → successor l x ≡ y
next-in l a x y b d t = sym (IsTurn-successor l (a ++ x ∷ y ∷ b) x t d) ∙ successor-next a x y b (IsTurn-distinct l (a ++ x ∷ y ∷ b) t d)

-- the first follows the last
pub next-last : (l k : List ℕ) (x y : ℕ) → is_distinct l ≡ true → IsTurn l k → Begins y k → Ends x k → x ≢ y → successor l x ≡ y
next-last l k x y d t b e n = at e.0 (sym b.1 ∙ e.1) (subst (IsTurn l) e.1 t)
  where
    at : (ahead : List ℕ) → y ∷ b.0 ≡ ahead ++ x ∷ [] → IsTurn l (ahead ++ x ∷ []) → successor l x ≡ y
    at [] q r = absurd (n (sym (ap (first_or 0) q)))
    at (z ∷ zs) q r = subst (λ u. successor l x ≡ u) (sym (ap (first_or 0) q)) (next-in l [] x z zs d (IsTurn-trans l (z ∷ (zs ++ x ∷ [])) (x ∷ z ∷ zs) r (IsTurn-swap (z ∷ zs) (x ∷ []))))

-- a walk along a run: what was passed, and what is still ahead
pub record IsWalking (key : ℕ → ℕ) (l : List ℕ) (first at steps : ℕ) : Type 0 where
  pub passed : List ℕ
  pub behind : List ℕ
  pub last : ℕ
  pub next : ℕ
  pub others : List ℕ
  pub is_run : IsRun first last (passed ++ at ∷ behind)
  pub alike : (x : ℕ) → is_member x (passed ++ at ∷ behind) ≡ true → key x ≡ key first
  pub differs : key next ≢ key first
  pub round : IsTurn l ((passed ++ at ∷ behind) ++ next ∷ others)
  pub length_passed : length passed ≡ steps

pub walk-start : (key : ℕ → ℕ) (l : List ℕ) (first last : ℕ) → EndsRun key l first last → IsWalking key l first first 0
walk-start key l first last w = record {
  passed = [];
  behind = w.is_run.behind;
  last = last;
  next = w.next;
  others = w.others;
  is_run = subst (IsRun first last) w.is_run.begins w.is_run;
  alike = λ x m. w.alike x (ap (is_member x) w.is_run.begins ∙ m);
  differs = w.differs;
  round = subst (λ (z : List ℕ). IsTurn l (z ++ w.next ∷ w.others)) w.is_run.begins w.round;
  length_passed = refl;
}

module _ (key : ℕ → ℕ) (l : List ℕ) (first at steps : ℕ) (d : is_distinct l ≡ true) (w : IsWalking key l first at steps) where
  -- the edge stands round the vertex
  pub walk-in : is_member at l ≡ true
  walk-in = sym (IsTurn-member l ((w.passed ++ at ∷ w.behind) ++ w.next ∷ w.others) at w.round)
      ∙ member-append_left at (w.passed ++ at ∷ w.behind) (w.next ∷ w.others) (member-append_right at w.passed (at ∷ w.behind) (member-head at w.behind))

  next-none : w.behind ≡ [] → successor l at ≡ w.next
  next-none e = next-in l w.passed at w.next w.others d (subst (IsTurn l) (append_assoc w.passed (at ∷ []) (w.next ∷ w.others)) (subst (λ (z : List ℕ). IsTurn l ((w.passed ++ at ∷ z) ++ w.next ∷ w.others)) e w.round))

  next-some : (b : ℕ) (bs : List ℕ) → w.behind ≡ b ∷ bs → successor l at ≡ b
  next-some b bs e = next-in l w.passed at b (bs ++ w.next ∷ w.others) d (subst (IsTurn l) (append_assoc w.passed (at ∷ b ∷ bs) (w.next ∷ w.others)) (subst (λ (z : List ℕ). IsTurn l ((w.passed ++ at ∷ z) ++ w.next ∷ w.others)) e w.round))

  some-key : (b : ℕ) (bs : List ℕ) → w.behind ≡ b ∷ bs → key b ≡ key first
  some-key b bs e = w.alike b (ap (λ (z : List ℕ). is_member b (w.passed ++ at ∷ z)) e ∙ member-append_right b w.passed (at ∷ b ∷ bs) (member-tail b at (b ∷ bs) (member-head b bs)))

  -- where the next edge has another key, the run ends
  pub walk-stop : key (successor l at) ≢ key first → EndsRun key l first at
  walk-stop n = go w.behind refl
    where
      go : (behind : List ℕ) → w.behind ≡ behind → EndsRun key l first at
      go [] e = record {
        run = w.passed ++ at ∷ w.behind;
        next = w.next;
        others = w.others;
        is_run = record { behind = w.is_run.behind; begins = w.is_run.begins; ahead = w.passed; ends = ap (λ (z : List ℕ). w.passed ++ at ∷ z) e };
        alike = w.alike;
        differs = w.differs;
        round = w.round;
      }
      go (b ∷ bs) e = absurd (n (ap key (next-some b bs e) ∙ some-key b bs e))

  -- else the walk goes on
  pub walk-on : key (successor l at) ≡ key first → IsWalking key l first (successor l at) (steps + 1)
  walk-on s = go w.behind refl
    where
      go : (behind : List ℕ) → w.behind ≡ behind → IsWalking key l first (successor l at) (steps + 1)
      go [] e = absurd (w.differs (ap key (sym (next-none e)) ∙ s))
      go (b ∷ bs) e = subst (λ z. IsWalking key l first z (steps + 1)) (sym (next-some b bs e)) (record {
        passed = w.passed ++ at ∷ [];
        behind = bs;
        last = w.last;
        next = w.next;
        others = w.others;
        is_run = subst (IsRun first w.last) (sym same) w.is_run;
        alike = λ x m. w.alike x (sym (ap (is_member x) same) ∙ m);
        differs = w.differs;
        round = subst (λ (z : List ℕ). IsTurn l (z ++ w.next ∷ w.others)) (sym same) w.round;
        length_passed = length-append w.passed (at ∷ []) ∙ ap (λ z. z + 1) w.length_passed;
      })
        where
          same : (w.passed ++ at ∷ []) ++ b ∷ bs ≡ w.passed ++ at ∷ w.behind
          same = append_assoc w.passed (at ∷ []) (b ∷ bs) ∙ ap (λ (z : List ℕ). w.passed ++ at ∷ z) (sym e)

  -- it takes fewer steps than there are edges
  pub walk-short : steps < length l
  walk-short = omega (arith, w.length_passed, IsTurn-length l ((w.passed ++ at ∷ w.behind) ++ w.next ∷ w.others) w.round, length-append (w.passed ++ at ∷ w.behind) (w.next ∷ w.others), length-append w.passed (at ∷ w.behind))

-- two runs from one edge that are as long as can be are one
same-runs : (key : ℕ → ℕ) (c : ℕ) (a b : List ℕ) (x y : ℕ) (u v : List ℕ) → ((z : ℕ) → is_member z a ≡ true → key z ≡ c) → ((z : ℕ) → is_member z b ≡ true → key z ≡ c) → key x ≢ c → key y ≢ c → a ++ x ∷ u ≡ b ++ y ∷ v → a ≡ b
same-runs key c [] [] x y u v ha hb nx ny e = refl
same-runs key c [] (z ∷ b) x y u v ha hb nx ny e = absurd (nx (ap key (ap (first_or 0) e) ∙ hb z (member-head z b)))
same-runs key c (z ∷ a) [] x y u v ha hb nx ny e = absurd (ny (ap key (sym (ap (first_or 0) e)) ∙ ha z (member-head z a)))
same-runs key c (z ∷ a) (w ∷ b) x y u v ha hb nx ny e =
    ap (λ q. q ∷ a) (ap (first_or 0) e) ∙ ap (λ (q : List ℕ). w ∷ q) (same-runs key c a b x y u v (λ q m. ha q (member-tail q z a m)) (λ q m. hb q (member-tail q w b m)) nx ny (ap (λ (q : List ℕ). rest q) e))
  where
    rest : List ℕ → List ℕ
    rest [] = []
    rest (q ∷ qs) = qs

pub ends-once : (key : ℕ → ℕ) (l : List ℕ) (first a b : ℕ) → is_distinct l ≡ true → EndsRun key l first a → EndsRun key l first b → a ≡ b
ends-once key l first a b d x y = end-once x.run a b (x.is_run.ahead, x.is_run.ends) (subst (Ends b) (sym same) (y.is_run.ahead, y.is_run.ends))
  where
    whole : (run : List ℕ) (next : ℕ) (others behind : List ℕ) → run ≡ first ∷ behind → IsTurn l (run ++ next ∷ others) → turned l first ≡ run ++ next ∷ others
    whole run next others behind e t = IsTurn-head l first (behind ++ next ∷ others) (subst (λ (z : List ℕ). IsTurn l (z ++ next ∷ others)) e t) d ∙ ap (λ (z : List ℕ). z ++ next ∷ others) (sym e)

    same : x.run ≡ y.run
    same = same-runs key (key first) x.run y.run x.next y.next x.others y.others x.alike y.alike x.differs y.differs
        (sym (whole x.run x.next x.others x.is_run.behind x.is_run.begins x.round) ∙ whole y.run y.next y.others y.is_run.behind y.is_run.begins y.round)

-- an edge in the first group of two or more: its run ends where the group does
module _ (key : ℕ → ℕ) (l : List ℕ) (g h : ℕ × List ℕ) (hs : List (ℕ × List ℕ)) (r : InRuns key l (g ∷ h ∷ hs)) where
  own : (x : ℕ) → is_member x g.1 ≡ true → key x ≡ g.0
  own x m = (All-head (IsGroup key) g (h ∷ hs) r.groups).same_key x m

  pub ends-run : (e : ℕ) → is_member e g.1 ≡ true → (last : ℕ) × EndsRun key l e last × Ends last g.1
  ends-run e m = (
    q.0,
    record {
      run = e ∷ cut.back;
      next = f.0;
      others = (f.1 ++ joined hs) ++ cut.front;
      is_run = record { behind = cut.back; begins = refl; ahead = q.1.0; ends = q.1.1 };
      alike = λ x i. own x (ap (is_member x) cut.is ∙ member-append_right x cut.front (e ∷ cut.back) i) ∙ sym (own e m);
      differs = λ y. other-groups key g (h ∷ hs) f.0 r.once r.groups (ap (is_member f.0) following ∙ member-head f.0 (f.1 ++ joined hs)) (y ∙ own e m);
      round = IsTurn-trans l (g.1 ++ joined (h ∷ hs)) ((e ∷ cut.back) ++ f.0 ∷ ((f.1 ++ joined hs) ++ cut.front)) r.around turn;
    },
    subst (Ends q.0) (sym cut.is) (end-behind cut.front (e ∷ cut.back) q.0 q.1),
  )
    where
      cut : CutAt e g.1
      cut = cut_at e g.1 m

      q : (last : ℕ) × Ends last (e ∷ cut.back)
      q = some-end (e ∷ cut.back) (omega arith)

      f : (x : ℕ) × (rest : List ℕ) × (h.1 ≡ x ∷ rest)
      f = first-of h.1 (All-head (IsGroup key) h hs (All-tail (IsGroup key) g (h ∷ hs) r.groups)).filled

      following : h.1 ++ joined hs ≡ f.0 ∷ (f.1 ++ joined hs)
      following = ap (λ (z : List ℕ). z ++ joined hs) f.2

      before : g.1 ++ (h.1 ++ joined hs) ≡ cut.front ++ ((e ∷ cut.back) ++ f.0 ∷ (f.1 ++ joined hs))
      before = ap (λ (z : List ℕ). z ++ (h.1 ++ joined hs)) cut.is ∙ append_assoc cut.front (e ∷ cut.back) (h.1 ++ joined hs) ∙ ap (λ (z : List ℕ). cut.front ++ ((e ∷ cut.back) ++ z)) following

      turn : IsTurn (g.1 ++ (h.1 ++ joined hs)) ((e ∷ cut.back) ++ f.0 ∷ ((f.1 ++ joined hs) ++ cut.front))
      turn = record { front = cut.front; back = (e ∷ cut.back) ++ f.0 ∷ (f.1 ++ joined hs); before = before; after = sym (append_assoc (e ∷ cut.back) (f.0 ∷ (f.1 ++ joined hs)) cut.front) }

  pub ends-last : (e c : ℕ) → is_distinct l ≡ true → is_member e g.1 ≡ true → EndsRun key l e c → Ends c g.1
  ends-last e c d m x = let w = ends-run e m in subst (λ z. Ends z g.1) (ends-once key l e w.0 c d w.1 x) w.2

  -- behind the last edge of the first group stands the first of the next
  pub group-next : (last : ℕ) → is_distinct l ≡ true → Ends last g.1 → Begins (successor l last) h.1
  group-next last d e =
      let f = first-of h.1 (All-head (IsGroup key) h hs (All-tail (IsGroup key) g (h ∷ hs) r.groups)).filled in
      let s : successor l last ≡ f.0 = next-in l e.0 last f.0 (f.1 ++ joined hs) d (subst (IsTurn l) (ap (λ (z : List ℕ). z ++ (h.1 ++ joined hs)) e.1 ∙ append_assoc e.0 (last ∷ []) (h.1 ++ joined hs) ∙ ap (λ (z : List ℕ). e.0 ++ last ∷ (z ++ joined hs)) f.2) r.around) in
      (f.1, f.2 ∙ ap (λ z. z ∷ f.1) (sym s))

  -- before the first edge of the first group stands one with another key
  pub before-first : (f : ℕ) → is_distinct l ≡ true → Begins f g.1 → (last : ℕ) × Ends last (joined (h ∷ hs)) × (predecessor l f ≡ last)
  before-first f d b =
      let q = some-end (joined (h ∷ hs)) some in
      let e : successor l q.0 ≡ f = next-last l (g.1 ++ joined (h ∷ hs)) q.0 f d r.around (b.0 ++ joined (h ∷ hs), ap (λ (z : List ℕ). z ++ joined (h ∷ hs)) b.1) (end-behind g.1 (joined (h ∷ hs)) q.0 q.1) (apart q.0 q.1) in
      (q.0, q.1, ap (predecessor l) (sym e) ∙ predecessor-successor l q.0 d)
    where
      some : 0 < length (joined (h ∷ hs))
      some = omega (arith, (All-head (IsGroup key) h hs (All-tail (IsGroup key) g (h ∷ hs) r.groups)).filled, length-append h.1 (joined hs))

      apart : (q : ℕ) → Ends q (joined (h ∷ hs)) → q ≢ f
      apart q e s = other-groups key g (h ∷ hs) q r.once r.groups (end-member (joined (h ∷ hs)) q e) (ap key s ∙ own f (begin-member g.1 f b))

  pub begins-run : (f : ℕ) → is_distinct l ≡ true → Begins f g.1 → BeginsRun key l g.0 f
  begins-run f d b = record {
    within = sym (IsTurn-member l (g.1 ++ joined (h ∷ hs)) f r.around) ∙ member-append_left f g.1 (joined (h ∷ hs)) (begin-member g.1 f b);
    has = own f (begin-member g.1 f b);
    differs = λ y. let w = before-first f d b in other-groups key g (h ∷ hs) w.0 r.once r.groups (end-member (joined (h ∷ hs)) w.0 w.1) (ap key (sym w.2) ∙ y);
  }

-- an edge before which another key stands is the first of its group
pub begins-first : (key : ℕ → ℕ) (l : List ℕ) (g : ℕ × List ℕ) (hs : List (ℕ × List ℕ)) (e : ℕ) → is_distinct l ≡ true → InRuns key l (g ∷ hs) → BeginsRun key l g.0 e → Begins e g.1
begins-first key l g hs e d r b = at cut.front refl
  where
    inside : is_member e g.1 ≡ true
    inside = first-group key g hs e r.once r.groups (IsTurn-member l (g.1 ++ joined hs) e r.around ∙ b.within) b.has

    cut : CutAt e g.1
    cut = cut_at e g.1 inside

    at : (front : List ℕ) → cut.front ≡ front → Begins e g.1
    at [] q = (cut.back, cut.is ∙ ap (λ (z : List ℕ). z ++ e ∷ cut.back) q)
    at (y ∷ ys) q =
        let w = some-end (y ∷ ys) (omega arith) in
        let is : g.1 ≡ w.1.0 ++ w.0 ∷ e ∷ cut.back = cut.is ∙ ap (λ (z : List ℕ). z ++ e ∷ cut.back) (q ∙ w.1.1) ∙ append_assoc w.1.0 (w.0 ∷ []) (e ∷ cut.back) in
        let s : successor l w.0 ≡ e = next-in l w.1.0 w.0 e (cut.back ++ joined hs) d (subst (IsTurn l) (ap (λ (z : List ℕ). z ++ joined hs) is ∙ append_assoc w.1.0 (w.0 ∷ e ∷ cut.back) (joined hs)) r.around) in
        absurd (b.differs (ap key (ap (predecessor l) (sym s) ∙ predecessor-successor l w.0 d)
        ∙ (All-head (IsGroup key) g hs r.groups).same_key w.0 (ap (is_member w.0) is ∙ member-append_right w.0 w.1.0 (w.0 ∷ e ∷ cut.back) (member-head w.0 (e ∷ cut.back)))))

-- a group put behind others
module _ (key : ℕ → ℕ) (l : List ℕ) (g : ℕ × List ℕ) (us vs : List (ℕ × List ℕ)) (first last after : ℕ) (r : InRuns key l (g ∷ (us ++ vs))) (run : IsRun first last g.1) where
  parts : (e : Ends after (joined us)) → g.1 ++ joined (us ++ vs) ≡ g.1 ++ (e.0 ++ after ∷ joined vs)
  parts e = ap (λ (z : List ℕ). g.1 ++ z) (joined-append us vs ∙ ap (λ (z : List ℕ). z ++ joined vs) e.1 ∙ append_assoc e.0 (after ∷ []) (joined vs))

  pub outside-groups : Ends after (joined us) → IsOutside l first last after
  outside-groups e = record { run = g.1; front = e.0; back = joined vs; parted = record { is_run = run; round = subst (IsTurn l) (parts e) r.around } }

  regrouped : (m : List ℕ) → IsTurn m (joined (us ++ g ∷ vs)) → InRuns key m (us ++ g ∷ vs)
  regrouped m t =
      let p : IsPermutation (g ∷ (us ++ vs)) (us ++ g ∷ vs) = IsPermutation-sym (us ++ g ∷ vs) (g ∷ (us ++ vs)) (IsPermutation-middle us g vs) in
      record {
        once = permutation-distinct (group_keys (g ∷ (us ++ vs))) (group_keys (us ++ g ∷ vs)) (IsPermutation-map (λ (h : ℕ × List ℕ). h.0) (g ∷ (us ++ vs)) (us ++ g ∷ vs) p) r.once;
        groups = All-permutation (IsGroup key) (g ∷ (us ++ vs)) (us ++ g ∷ vs) p r.groups;
        around = t;
      }

  pub moved-groups : (m : List ℕ) → is_distinct l ≡ true → Ends after (joined us) → IsRunMoved l m first last after → InRuns key m (us ++ g ∷ vs)
  moved-groups m d e w = regrouped m (subst (λ (z : List ℕ). IsTurn z (joined (us ++ g ∷ vs))) (sym (w.moved ∙ ap from_least made)) (IsTurn-sym (joined (us ++ g ∷ vs)) (from_least (joined (us ++ g ∷ vs))) (from_least-turn (joined (us ++ g ∷ vs)))))
    where
      whole : (run others behind : List ℕ) → run ≡ first ∷ behind → IsTurn l (run ++ others) → turned l first ≡ run ++ others
      whole run others behind q t = IsTurn-head l first (behind ++ others) (subst (λ (z : List ℕ). IsTurn l (z ++ others)) q t) d ∙ ap (λ (z : List ℕ). z ++ others) (sym q)

      same : g.1 ++ (e.0 ++ after ∷ joined vs) ≡ w.run ++ (w.front ++ after ∷ w.back)
      same = sym (whole g.1 (e.0 ++ after ∷ joined vs) run.behind run.begins (subst (IsTurn l) (parts e) r.around)) ∙ whole w.run (w.front ++ after ∷ w.back) w.parted.is_run.behind w.parted.is_run.begins w.parted.round

      once : is_distinct (g.1 ++ (e.0 ++ after ∷ joined vs)) ≡ true
      once = IsTurn-distinct l (g.1 ++ (e.0 ++ after ∷ joined vs)) (subst (IsTurn l) (parts e) r.around) d

      left : (ahead others : List ℕ) → (run : List ℕ) → run ≡ ahead ++ last ∷ [] → run ++ others ≡ ahead ++ last ∷ others
      left ahead others run q = ap (λ (z : List ℕ). z ++ others) q ∙ append_assoc ahead (last ∷ []) others

      first-cut : (run.ahead ≡ w.parted.is_run.ahead) × (e.0 ++ after ∷ joined vs ≡ w.front ++ after ∷ w.back)
      first-cut = cut-once run.ahead (e.0 ++ after ∷ joined vs) w.parted.is_run.ahead (w.front ++ after ∷ w.back) last
          (ap is_distinct (sym (left run.ahead (e.0 ++ after ∷ joined vs) g.1 run.ends)) ∙ once)
          (sym (left run.ahead (e.0 ++ after ∷ joined vs) g.1 run.ends) ∙ same ∙ left w.parted.is_run.ahead (w.front ++ after ∷ w.back) w.run w.parted.is_run.ends)

      second-cut : (e.0 ≡ w.front) × (joined vs ≡ w.back)
      second-cut = cut-once e.0 (joined vs) w.front w.back after (distinct-append_right g.1 (e.0 ++ after ∷ joined vs) once) first-cut.1

      runs : w.run ≡ g.1
      runs = w.parted.is_run.ends ∙ ap (λ (z : List ℕ). z ++ last ∷ []) (sym first-cut.0) ∙ sym run.ends

      made : w.front ++ after ∷ (w.run ++ w.back) ≡ joined (us ++ g ∷ vs)
      made = ap (λ (z : List ℕ). z ++ after ∷ (w.run ++ w.back)) (sym second-cut.0) ∙ ap (λ (z : List ℕ). e.0 ++ after ∷ (z ++ w.back)) runs ∙ ap (λ (z : List ℕ). e.0 ++ after ∷ (g.1 ++ z)) (sym second-cut.1)
          ∙ sym (append_assoc e.0 (after ∷ []) (g.1 ++ joined vs)) ∙ ap (λ (z : List ℕ). z ++ (g.1 ++ joined vs)) (sym e.1) ∙ sym (joined-append us (g ∷ vs))

-- the same where the group may stay
module _ (key : ℕ → ℕ) (l : List ℕ) (g : ℕ × List ℕ) (us vs : List (ℕ × List ℕ)) (first last after : ℕ) (d : is_distinct l ≡ true) (r : InRuns key l (g ∷ (us ++ vs))) (run : IsRun first last g.1) (e : Ends after (joined (g ∷ us))) where
  filled : (u : ℕ × List ℕ) (rest : List (ℕ × List ℕ)) → us ≡ u ∷ rest → 0 < length (joined us)
  filled u rest q = let f : 0 < length u.1 = (All-head (IsGroup key) u (rest ++ vs) (All-tail (IsGroup key) g (u ∷ (rest ++ vs)) (subst (λ (z : List (ℕ × List ℕ)). All (IsGroup key) (g ∷ (z ++ vs))) q r.groups))).filled in
      omega (arith, f, length-append u.1 (joined rest), ap (λ (z : List (ℕ × List ℕ)). length (joined z)) q)

  ends-behind : 0 < length (joined us) → Ends after (joined us)
  ends-behind s = let q = some-end (joined us) s in subst (λ z. Ends z (joined us)) (end-once (g.1 ++ joined us) q.0 after (end-behind g.1 (joined us) q.0 q.1) e) q.1

  alone : us ≡ [] → after ≡ last
  alone q = end-once g.1 after last (subst (Ends after) (ap (λ (z : List (ℕ × List ℕ)). g.1 ++ joined z) q ∙ append-nil g.1) e) (run.ahead, run.ends)

  pub outside-put : after ≢ last → IsOutside l first last after
  outside-put n = at us refl
    where
      at : (ws : List (ℕ × List ℕ)) → us ≡ ws → IsOutside l first last after
      at [] q = absurd (n (alone q))
      at (u ∷ ws) q = outside-groups key l g us vs first last after r run (ends-behind (filled u ws q))

  pub put-groups : (m : List ℕ) → IsPut l m first last after → InRuns key m (us ++ g ∷ vs)
  put-groups m p = at us refl
    where
      at : (ws : List (ℕ × List ℕ)) → us ≡ ws → InRuns key m (us ++ g ∷ vs)
      at [] q = subst (λ (z : List (ℕ × List ℕ)). InRuns key m (z ++ g ∷ vs)) (sym q) (subst (λ (z : List ℕ). InRuns key z (g ∷ vs)) (sym (p.stays (alone q))) (subst (λ (z : List (ℕ × List ℕ)). InRuns key l (g ∷ (z ++ vs))) q r))
      at (u ∷ ws) q =
          let s : Ends after (joined us) = ends-behind (filled u ws q) in
          moved-groups key l g us vs first last after r run m d s (p.moves (apart s))
        where
          apart : Ends after (joined us) → after ≢ last
          apart s i = both_ways (is_member after (joined (us ++ vs)))
              (distinct-append_apart g.1 (joined (us ++ vs)) (IsTurn-distinct l (g.1 ++ joined (us ++ vs)) r.around d) after (ap (λ z. is_member z g.1) i ∙ end-member g.1 last (run.ahead, run.ends)))
              (ap (is_member after) (joined-append us vs) ∙ member-append_left after (joined us) (joined vs) (end-member (joined us) after s))

-- an edge of an order is one of the graph
pub edge-below : (g : Multigraph) (nodes : List Node) (r : List (List ℕ)) (v e : ℕ) → IsBlockTree g nodes → IsRotationSystem g r → v < g.vertex_count → is_member e (order_at r v) ≡ true
    → (h : Multigraph) × IsGraph h × IsTutte h nodes × (e < edge_count h)
edge-below g nodes r v e b s l m = (g, b.graph, b.tree, (order-edge g nodes b r v e s l m).0)

-- the edges round a vertex are as many as the edges at it
pub order-length : (g : Multigraph) (r : List (List ℕ)) (v : ℕ) → IsRotationSystem g r → v < g.vertex_count → length (order_at r v) ≡ length (incident_edges g v)
order-length g r v s l = length_permutation (incident_edges g v) (order_at r v) (s.orders v l).arranged

-- of the edges at a vertex each stands round it
pub incident-in : (g : Multigraph) (r : List (List ℕ)) (v i : ℕ) (edges : List ℕ) → IsRotationSystem g r → v < g.vertex_count → edges ≡ incident_edges g v → i < length edges → is_member (slice_index_or edges i 0) (order_at r v) ≡ true
incident-in g r v i edges s l q h = permutation-member (incident_edges g v) (order_at r v) (slice_index_or edges i 0) (s.orders v l).arranged ∙ subst (λ (z : List ℕ). is_member (slice_index_or edges i 0) z ≡ true) q (member-at edges i 0 h)

-- an edge at a vertex stands around it
pub edge-around : (g : Multigraph) (r : List (List ℕ)) (v e : ℕ) → IsRotationSystem g r → v < g.vertex_count → is_edge_at g v e ≡ true → is_member e (order_at r v) ≡ true
edge-around g r v e s l h = let w = edge_at-parts g v e h in
    permutation-member (incident_edges g v) (order_at r v) e (s.orders v l).arranged ∙ member-from_contains (incident_edges g v) e (incident-has g v e w.0 w.1)

-- a member of a front is one of a shorter front, or the last
pub take-more : (l : List ℕ) (i x : ℕ) → i < length l → is_member x (take (suc i) l) ≡ true → (is_member x (take i l) ≡ true) ⊎ (slice_index_or l i 0 ≡ x)
take-more [] i x h m = absurd (omega (arith, h))
take-more (y ∷ l) zero x h m = elim (member-cases x y [] m) [ inl e ↦ inr e | inr n ↦ absurd (true≢false (sym n)) ]
take-more (y ∷ l) (suc i) x h m = elim (member-cases x y (take (suc i) l) m) [
  | inl e ↦ inl (ap (λ z. is_member x (z ∷ take i l)) e ∙ member-head x (take i l))
  | inr n ↦ elim (take-more l i x (omega (arith, h)) n) [ inl o ↦ inl (member-tail x y (take i l) o) | inr o ↦ inr o ]
]

-- a test that fails at all but the last of a longer front fails there too
pub none-more : (P : ℕ → Type 0) (l : List ℕ) (i : ℕ) → i < length l → ((x : ℕ) → is_member x (take i l) ≡ true → P x → ⊥) → (P (slice_index_or l i 0) → ⊥) → (x : ℕ) → is_member x (take (i + 1) l) ≡ true → P x → ⊥
none-more P l i h n last x m p = let e : i + 1 ≡ suc i = omega arith in elim (take-more l i x h (subst (λ z. is_member x (take z l) ≡ true) e m)) [ inl o ↦ n x o p | inr e ↦ last (subst P (sym e) p) ]

-- where it fails at all members it fails everywhere
pub none-found : (g : Multigraph) (r : List (List ℕ)) (v n k x : ℕ) (key : ℕ → ℕ) (edges : List ℕ) → IsRotationSystem g r → v < g.vertex_count → edges ≡ incident_edges g v → length edges ≤ n
    → ((x : ℕ) → is_member x (take n edges) ≡ true → BeginsRun key (order_at r v) k x → ⊥) → BeginsRun key (order_at r v) k x → ⊥
none-found g r v n k x key edges s l q h none b =
    none x (subst (λ (z : List ℕ). is_member x z ≡ true) (sym (take_all n edges h)) (subst (λ (z : List ℕ). is_member x z ≡ true) (sym q) (sym (permutation-member (incident_edges g v) (order_at r v) x (s.orders v l).arranged) ∙ b.within))) b

-- a cyclic order of two groups or more, seen from one of its members
pub record IsSeenFrom (key : ℕ → ℕ) (l : List ℕ) (e : ℕ) : Type 0 where
  pub own : ℕ × List ℕ
  pub next : ℕ × List ℕ
  pub others : List (ℕ × List ℕ)
  pub runs : InRuns key l (own ∷ next ∷ others)
  pub inside : is_member e own.1 ≡ true

pub seen-from : (key : ℕ → ℕ) (l : List ℕ) (e : ℕ) → StandInTwoRuns key l → is_member e l ≡ true → IsSeenFrom key l e
seen-from key l e s m = at (joined-member s.groups e (IsTurn-member l (joined s.groups) e s.runs.around ∙ m))
  where
    at : (us : List (ℕ × List ℕ)) × (g : ℕ × List ℕ) × (vs : List (ℕ × List ℕ)) × (s.groups ≡ us ++ g ∷ vs) × (is_member e g.1 ≡ true) → IsSeenFrom key l e
    at w = more (w.2 ++ w.0) refl
      where
        turn : IsTurn s.groups (w.1 ∷ (w.2 ++ w.0))
        turn = record { front = w.0; back = w.1 ∷ w.2; before = w.3; after = refl }

        more : (rest : List (ℕ × List ℕ)) → w.2 ++ w.0 ≡ rest → IsSeenFrom key l e
        more [] q = absurd (omega (arith, s.two, IsTurn-length s.groups (w.1 ∷ (w.2 ++ w.0)) turn, ap (λ (z : List (ℕ × List ℕ)). length z) q))
        more (h ∷ hs) q = record { own = w.1; next = h; others = hs; runs = subst (λ (z : List (ℕ × List ℕ)). InRuns key l (w.1 ∷ z)) q (runs-turn key l s.groups (w.1 ∷ (w.2 ++ w.0)) s.runs turn); inside = w.4 }

-- so the run of each member has an end
pub some-last : (key : ℕ → ℕ) (l : List ℕ) (e : ℕ) → StandInTwoRuns key l → is_member e l ≡ true → (last : ℕ) × EndsRun key l e last
some-last key l e s m = let w = seen-from key l e s m in let q = ends-run key l w.own w.next w.others w.runs e w.inside in (q.0, q.1)

-- the first and the last edge of a run stand in the cyclic order
pub run-last_in : (key : ℕ → ℕ) (l : List ℕ) (first last : ℕ) → EndsRun key l first last → is_member last l ≡ true
run-last_in key l first last w = sym (IsTurn-member l (w.run ++ w.next ∷ w.others) last w.round) ∙ member-append_left last w.run (w.next ∷ w.others) (end-member w.run last (w.is_run.ahead, w.is_run.ends))

-- the last edge of a run has the key of the first
pub last-key : (key : ℕ → ℕ) (l : List ℕ) (first last : ℕ) → EndsRun key l first last → key last ≡ key first
last-key key l first last w = w.alike last (end-member w.run last (w.is_run.ahead, w.is_run.ends))

-- it has members
pub two-filled : (key : ℕ → ℕ) (l : List ℕ) → StandInTwoRuns key l → 0 < length l
two-filled key l s = at s.groups s.runs s.two
  where
    at : (gs : List (ℕ × List ℕ)) → InRuns key l gs → 1 < length gs → 0 < length l
    at [] r h = absurd (omega (arith, h))
    at (g ∷ gs) r h = omega (arith, (All-head (IsGroup key) g gs r.groups).filled, length-append g.1 (joined gs), IsTurn-length l (g.1 ++ joined gs) r.around)

-- the end of two lists is that of the second, where this has one
pub end-of_second : (k l : List ℕ) (a : ℕ) → 0 < length l → Ends a (k ++ l) → Ends a l
end-of_second k l a s e = let q = some-end l s in subst (λ z. Ends z l) (end-once (k ++ l) q.0 a (end-behind k l q.0 q.1) e) q.1

-- the first group, with others behind it
module _ (key : ℕ → ℕ) (l : List ℕ) (g : ℕ × List ℕ) (rest : List (ℕ × List ℕ)) (d : is_distinct l ≡ true) (r : InRuns key l (g ∷ rest)) (s : 0 < length rest) where
  -- its run, from its first edge to its last
  pub run-is : (first last : ℕ) → BeginsRun key l g.0 first → EndsRun key l first last → IsRun first last g.1
  run-is first last b e = let x = begins-first key l g rest first d r b in let y = at rest r s (begin-member g.1 first x) in record { behind = x.0; begins = x.1; ahead = y.0; ends = y.1 }
    where
      at : (rest : List (ℕ × List ℕ)) → InRuns key l (g ∷ rest) → 0 < length rest → is_member first g.1 ≡ true → Ends last g.1
      at [] r s m = absurd (omega (arith, s))
      at (h ∷ hs) r s m = ends-last key l g h hs r first last d m e

  -- before it ends the last of the others
  pub before-is : (first : ℕ) → BeginsRun key l g.0 first → Ends (predecessor l first) (joined rest)
  before-is first b = at rest r s
    where
      at : (rest : List (ℕ × List ℕ)) → InRuns key l (g ∷ rest) → 0 < length rest → Ends (predecessor l first) (joined rest)
      at [] r s = absurd (omega (arith, s))
      at (h ∷ hs) r s = let w = before-first key l g h hs r first d (begins-first key l g (h ∷ hs) first d r b) in subst (λ z. Ends z (joined (h ∷ hs))) (sym w.2) w.1

  -- and it has a first edge
  pub some-first : (first : ℕ) × BeginsRun key l g.0 first
  some-first = at rest r s
    where
      at : (rest : List (ℕ × List ℕ)) → InRuns key l (g ∷ rest) → 0 < length rest → (first : ℕ) × BeginsRun key l g.0 first
      at [] r s = absurd (omega (arith, s))
      at (h ∷ hs) r s = let f = first-of g.1 (All-head (IsGroup key) g (h ∷ hs) r.groups).filled in (f.0, begins-run key l g h hs r f.0 d (f.1, f.2))
