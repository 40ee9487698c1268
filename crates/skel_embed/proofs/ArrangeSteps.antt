-- Groups around a vertex brought into the cyclic order of keys: each run put after the one before it.
use Rattle.std.proofs.Common.{◌≡◌, ℕ, ◌+◌, ◌<◌, inl, inr, Bool, true, false, List, [], ◌∷◌, ◌++◌, length, take, drop, slice_index_or, refl, sym, ap, ap₂, ◌∙◌, subst, arith, append_assoc, append-nil, IsPermutation}
use Rattle.std.proofs.lemmas.Bool.{both_ways, true≢false}
use Rattle.std.proofs.lemmas.List.{length-append, length-map, length-reverse, length-take-le, take-append-drop, take-map, drop-map, take_at, drop_at, take_all, take_more}
use Rattle.std.proofs.lemmas.List.Sorted.{IsPermutation-trans, IsPermutation-map, IsPermutation-middle, IsPermutation-append_right, length_permutation}
use Rattle.permutations.specs.Cyclic.{IsTurn}
use Rattle.permutations.specs.Members.{is_member, is_distinct}
use Rattle.permutations.specs.Runs.{joined, group_keys, InRuns}
use Rattle.permutations.proofs.Arrangements.{permutation-distinct, permutation-member, member-at}
use Rattle.permutations.proofs.Members.{member-append_cases, member-cases}
use Rattle.permutations.proofs.Runs.{joined-append, runs-turn}
use Rattle.permutations.proofs.Turned.{IsTurn-length, IsTurn-permutation}
use Rattle.rotations.specs.Runs.{IsRun, IsOutside, IsRunMoved}
use Rattle.skeletons.specs.Moves.{AreRegrouped}
use Rattle.skeletons.proofs.Rearranged.{group-with}
use Rattle.skel_embed.specs.Arranged.{directed, from_place, HasGroupsOf}
use Rattle.skel_embed.specs.Steps.{EndsRun, BeginsRun, StandInTwoRuns}
use Rattle.skel_embed.proofs.ExchangeSteps.{keys-append}
use Rattle.skel_embed.proofs.RunSteps.{Ends, end-behind, run-is, some-first, outside-groups, moved-groups}
use Rattle.skel_embed.proofs.TurnSteps.{next-new}

-- a cyclic order written from a place on
pub place-turn : (place : ℕ) (l : List ℕ) → IsTurn l (from_place place l)
place-turn place l = record { front = take place l; back = drop place l; before = sym (take-append-drop place l); after = refl }

-- either way the list has the same length
pub directed-length : (backwards : Bool) (end : ℕ) (l : List ℕ) → length (directed backwards end l) ≡ length l
directed-length true end l = length-reverse (from_place end l) ∙ IsTurn-length l (from_place end l) (place-turn end l)
directed-length false end l = IsTurn-length l (from_place (end + 1) l) (place-turn (end + 1) l)

-- groups that are in the cyclic order of keys are in it from whichever key it is written on
pub keys-turned : (key : ℕ → ℕ) (l keys new m : List ℕ) → IsTurn keys new → AreRegrouped key l keys m → AreRegrouped key l new m
keys-turned key l keys new m t a = record {
  before = a.before;
  after = drop (length t.front) a.after ++ take (length t.front) a.after;
  runs_before = a.runs_before;
  runs_after = runs-turn key m a.after (drop (length t.front) a.after ++ take (length t.front) a.after) a.runs_after turn;
  same_groups = IsPermutation-trans a.before a.after (drop (length t.front) a.after ++ take (length t.front) a.after) a.same_groups (IsTurn-permutation a.after (drop (length t.front) a.after ++ take (length t.front) a.after) turn);
  order = order;
}
  where
    turn : IsTurn a.after (drop (length t.front) a.after ++ take (length t.front) a.after)
    turn = record { front = take (length t.front) a.after; back = drop (length t.front) a.after; before = sym (take-append-drop (length t.front) a.after); after = refl }

    is : group_keys a.after ≡ t.front ++ t.back
    is = a.order ∙ t.before

    later : group_keys (drop (length t.front) a.after) ≡ t.back
    later = sym (drop-map (λ (h : ℕ × List ℕ). h.0) (length t.front) a.after) ∙ ap (drop (length t.front)) is ∙ drop_at t.front t.back (length t.front) refl

    earlier : group_keys (take (length t.front) a.after) ≡ t.front
    earlier = sym (take-map (λ (h : ℕ × List ℕ). h.0) (length t.front) a.after) ∙ ap (take (length t.front)) is ∙ take_at t.front t.back (length t.front) refl

    order : group_keys (drop (length t.front) a.after ++ take (length t.front) a.after) ≡ new
    order = keys-append (drop (length t.front) a.after) (take (length t.front) a.after) ∙ ap₂ (λ (x y : List ℕ). x ++ y) later earlier ∙ sym t.after

-- a list of groups cut at the one with this key
pub record IsCutAt (gs : List (ℕ × List ℕ)) (a : ℕ) : Type 0 where
  pub own : ℕ × List ℕ
  pub ahead : List (ℕ × List ℕ)
  pub behind : List (ℕ × List ℕ)
  pub is : gs ≡ ahead ++ own ∷ behind
  pub has : own.0 ≡ a

pub cut-at : (gs : List (ℕ × List ℕ)) (a : ℕ) → is_member a (group_keys gs) ≡ true → IsCutAt gs a
cut-at gs a m = let w = group-with a gs m in record { own = w.1; ahead = w.0; behind = w.2; is = w.3; has = w.4 }

-- the group with this key first, then those after it, those before both, and those between
module _ (key : ℕ → ℕ) (m : List ℕ) (front rest : List (ℕ × List ℕ)) (a : ℕ) (d : is_distinct m ≡ true) (r : InRuns key m (front ++ rest)) (two : 1 < length (front ++ rest)) (w : IsCutAt rest a) where
  abbrev pub others : List (ℕ × List ℕ)
  others = (w.behind ++ front) ++ w.ahead

  pub seen : InRuns key m (w.own ∷ others)
  seen = runs-turn key m (front ++ rest) (w.own ∷ others) r (record {
    front = front ++ w.ahead;
    back = w.own ∷ w.behind;
    before = ap (λ (z : List (ℕ × List ℕ)). front ++ z) w.is ∙ sym (append_assoc front w.ahead (w.own ∷ w.behind));
    after = ap (λ (z : List (ℕ × List ℕ)). w.own ∷ z) (append_assoc w.behind front w.ahead);
  })

  some-others : 0 < length others
  some-others = omega (arith, two, length-append front rest, ap (λ (z : List (ℕ × List ℕ)). length z) w.is, length-append w.ahead (w.own ∷ w.behind), length-append (w.behind ++ front) w.ahead, length-append w.behind front)

  -- its run begins somewhere
  pub cut-begins : (first : ℕ) × BeginsRun key m a first
  cut-begins = subst (λ z. (first : ℕ) × BeginsRun key m z first) w.has (some-first key m w.own others d seen some-others)

  -- and is the group
  pub cut-run : (first last : ℕ) → BeginsRun key m a first → EndsRun key m first last → IsRun first last w.own.1
  cut-run first last b e = run-is key m w.own others d seen some-others first last (subst (λ z. BeginsRun key m z first) (sym w.has) b) e

-- the groups of the keys passed so far are in this order, and after them the others; the last edge of those passed is known
pub record IsArranging (key : ℕ → ℕ) (l keys m : List ℕ) (i last : ℕ) : Type 0 where
  pub groups : List (ℕ × List ℕ)
  pub placed : List (ℕ × List ℕ)
  pub rest : List (ℕ × List ℕ)
  pub before : InRuns key l groups
  pub all_keys : IsPermutation (group_keys groups) keys
  pub now : InRuns key m (placed ++ rest)
  pub same_groups : IsPermutation groups (placed ++ rest)
  pub written : group_keys placed ≡ take i keys
  pub ends : Ends last (joined placed)

-- at the start that of the first key
module _ (key : ℕ → ℕ) (l keys : List ℕ) (d : is_distinct l ≡ true) (q : HasGroupsOf key l keys) where
  start-two : 1 < length q.groups
  start-two = omega (arith, q.two, length_permutation (group_keys q.groups) keys q.arranged, length-map q.groups (λ (h : ℕ × List ℕ). h.0))

  start-cut : IsCutAt q.groups (slice_index_or keys 0 0)
  start-cut = cut-at q.groups (slice_index_or keys 0 0) (sym (permutation-member (group_keys q.groups) keys (slice_index_or keys 0 0) q.arranged) ∙ member-at keys 0 0 (omega (arith, q.two)))

  pub start-runs : StandInTwoRuns key l
  start-runs = record { groups = q.groups; runs = q.runs; two = start-two }

  pub start-begins : (first : ℕ) × BeginsRun key l (slice_index_or keys 0 0) first
  start-begins = cut-begins key l [] q.groups (slice_index_or keys 0 0) d q.runs start-two start-cut

  pub arranging-start : (first last : ℕ) → BeginsRun key l (slice_index_or keys 0 0) first → EndsRun key l first last → IsArranging key l keys l 1 last
  arranging-start first last b e = record {
    groups = q.groups;
    placed = start-cut.own ∷ [];
    rest = start-cut.behind ++ start-cut.ahead;
    before = q.runs;
    all_keys = q.arranged;
    now = runs-turn key l q.groups (start-cut.own ∷ (start-cut.behind ++ start-cut.ahead)) q.runs turn;
    same_groups = IsTurn-permutation q.groups (start-cut.own ∷ (start-cut.behind ++ start-cut.ahead)) turn;
    written = ap (λ z. z ∷ []) start-cut.has ∙ sym (take_more keys 0 0 (omega (arith, q.two)));
    ends = subst (Ends last) (sym (append-nil start-cut.own.1)) (run.ahead, run.ends);
  }
    where
      turn : IsTurn q.groups (start-cut.own ∷ (start-cut.behind ++ start-cut.ahead))
      turn = record { front = start-cut.ahead; back = start-cut.own ∷ start-cut.behind; before = start-cut.is; after = refl }

      run : IsRun first last start-cut.own.1
      run = cut-run key l [] q.groups (slice_index_or keys 0 0) d q.runs start-two start-cut first last b e

module _ (key : ℕ → ℕ) (l keys m : List ℕ) (i last : ℕ) (w : IsArranging key l keys m i last) where
  all-long : length (w.placed ++ w.rest) ≡ length keys
  all-long = omega (arith, length_permutation w.groups (w.placed ++ w.rest) w.same_groups, length_permutation (group_keys w.groups) keys w.all_keys, length-map w.groups (λ (h : ℕ × List ℕ). h.0))

  module _ (two : 1 < length keys) (d : is_distinct m ≡ true) (h : i < length keys) where
    now-two : 1 < length (w.placed ++ w.rest)
    now-two = omega (arith, two, all-long)

    abbrev wanted : ℕ
    wanted = slice_index_or keys i 0

    once : is_distinct keys ≡ true
    once = permutation-distinct (group_keys w.groups) keys w.all_keys w.before.once

    -- the group of the next key is one of the others
    next-in : is_member wanted (group_keys w.rest) ≡ true
    next-in = elim (member-append_cases wanted (group_keys w.placed) (group_keys w.rest) among) [
      | inl m ↦ absurd (both_ways (is_member wanted (group_keys w.placed)) (ap (is_member wanted) w.written ∙ next-new keys i once h) m)
      | inr m ↦ m
    ]
      where
        among : is_member wanted (group_keys w.placed ++ group_keys w.rest) ≡ true
        among = sym (ap (is_member wanted) (keys-append w.placed w.rest)) ∙ permutation-member (group_keys w.groups) (group_keys (w.placed ++ w.rest)) wanted (IsPermutation-map (λ (h : ℕ × List ℕ). h.0) w.groups (w.placed ++ w.rest) w.same_groups)
            ∙ sym (permutation-member (group_keys w.groups) keys wanted w.all_keys) ∙ member-at keys i 0 h

    -- with one key left the groups are in their order
    pub arranging-last : i + 1 ≡ length keys → AreRegrouped key l keys m
    arranging-last e = record { before = w.groups; after = w.placed ++ w.rest; runs_before = w.before; runs_after = w.now; same_groups = w.same_groups; order = order }
      where
        placed-long : length w.placed ≡ i
        placed-long = sym (length-map w.placed (λ (h : ℕ × List ℕ). h.0)) ∙ ap length w.written ∙ length-take-le i keys (omega (arith, h))

        left : length w.rest ≡ 1
        left = omega (arith, all-long, placed-long, length-append w.placed w.rest, e)

        one : (gs : List (ℕ × List ℕ)) → length gs ≡ 1 → is_member wanted (group_keys gs) ≡ true → group_keys gs ≡ wanted ∷ []
        one [] n m = absurd (omega (arith, n))
        one (g ∷ []) n m = elim (member-cases wanted g.0 [] m) [
          | inl q ↦ ap (λ z. z ∷ []) q
          | inr q ↦ absurd (true≢false (sym q))
        ]
        one (g ∷ k ∷ gs) n m = absurd (omega (arith, n))

        order : group_keys (w.placed ++ w.rest) ≡ keys
        order = keys-append w.placed w.rest ∙ ap₂ (λ (x y : List ℕ). x ++ y) w.written (one w.rest left next-in) ∙ sym (take_more keys i 0 h) ∙ take_all (i + 1) keys (omega (arith, e))

    next-cut : IsCutAt w.rest wanted
    next-cut = cut-at w.rest wanted next-in

    pub arranging-runs : StandInTwoRuns key m
    arranging-runs = record { groups = w.placed ++ w.rest; runs = w.now; two = now-two }

    pub arranging-begins : (first : ℕ) × BeginsRun key m (slice_index_or keys i 0) first
    arranging-begins = cut-begins key m w.placed w.rest wanted d w.now now-two next-cut

    module _ (first end : ℕ) (b : BeginsRun key m (slice_index_or keys i 0) first) (e : EndsRun key m first end) where
      run : IsRun first end next-cut.own.1
      run = cut-run key m w.placed w.rest wanted d w.now now-two next-cut first end b e

      now-seen : InRuns key m (next-cut.own ∷ ((next-cut.behind ++ w.placed) ++ next-cut.ahead))
      now-seen = seen key m w.placed w.rest wanted d w.now now-two next-cut

      -- those passed so far end in front of the ones between
      behind-ends : Ends last (joined (next-cut.behind ++ w.placed))
      behind-ends = subst (Ends last) (sym (joined-append next-cut.behind w.placed)) (end-behind (joined next-cut.behind) (joined w.placed) last w.ends)

      pub arranging-outside : IsOutside m first end last
      arranging-outside = outside-groups key m next-cut.own (next-cut.behind ++ w.placed) next-cut.ahead first end last now-seen run behind-ends

      -- put after them, it is one more of them
      pub arranging-more : (n : List ℕ) → IsRunMoved m n first end last → IsArranging key l keys n (i + 1) end
      arranging-more n p = record {
        groups = w.groups;
        placed = w.placed ++ next-cut.own ∷ [];
        rest = next-cut.ahead ++ next-cut.behind;
        before = w.before;
        all_keys = w.all_keys;
        now = runs-turn key n ((next-cut.behind ++ w.placed) ++ next-cut.own ∷ next-cut.ahead) ((w.placed ++ next-cut.own ∷ []) ++ (next-cut.ahead ++ next-cut.behind))
            (moved-groups key m next-cut.own (next-cut.behind ++ w.placed) next-cut.ahead first end last now-seen run n d behind-ends p)
            (record { front = next-cut.behind; back = w.placed ++ next-cut.own ∷ next-cut.ahead; before = append_assoc next-cut.behind w.placed (next-cut.own ∷ next-cut.ahead); after = flat ∙ sym (append_assoc w.placed (next-cut.own ∷ next-cut.ahead) next-cut.behind) });
        same_groups = IsPermutation-trans w.groups (w.placed ++ w.rest) ((w.placed ++ next-cut.own ∷ []) ++ (next-cut.ahead ++ next-cut.behind)) w.same_groups
            (subst (λ (z : List (ℕ × List ℕ)). IsPermutation (w.placed ++ w.rest) z) (sym flat) (subst (λ (z : List (ℕ × List ℕ)). IsPermutation (w.placed ++ z) (w.placed ++ next-cut.own ∷ (next-cut.ahead ++ next-cut.behind))) (sym next-cut.is)
            (IsPermutation-append_right w.placed (next-cut.ahead ++ next-cut.own ∷ next-cut.behind) (next-cut.own ∷ (next-cut.ahead ++ next-cut.behind)) (IsPermutation-middle next-cut.ahead next-cut.own next-cut.behind))));
        written = keys-append w.placed (next-cut.own ∷ []) ∙ ap (λ (z : List ℕ). z ++ next-cut.own.0 ∷ []) w.written ∙ ap (λ z. take i keys ++ z ∷ []) next-cut.has ∙ sym (take_more keys i 0 h);
        ends = subst (Ends end) (sym (joined-append w.placed (next-cut.own ∷ []))) (end-behind (joined w.placed) (next-cut.own.1 ++ []) end (subst (Ends end) (sym (append-nil next-cut.own.1)) (run.ahead, run.ends)));
      }
        where
          flat : (w.placed ++ next-cut.own ∷ []) ++ (next-cut.ahead ++ next-cut.behind) ≡ w.placed ++ next-cut.own ∷ (next-cut.ahead ++ next-cut.behind)
          flat = append_assoc w.placed (next-cut.own ∷ []) (next-cut.ahead ++ next-cut.behind)
