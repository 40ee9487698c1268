-- A `&` to the element of a vector that lies at a place is a part of what the `&` to the vector holds. Assumes `Logic`.
use mathlib.Core.Path.{◌≡◌, refl, sym, ap, ◌∙◌, subst}
use Prim.Native.Nat.{ℕ, ◌+◌, ◌*◌, ◌<◌}
use lib.ListN.{length}
use mathlib.Core.List.{List, [], ◌∷◌}
use mir.Syntax.{Fn, named}
use mir.Val.{Val, vptr}
use base.Fml.{ftrue, flft, fhide}
use seplogic.Ra.Ura.{Ura}
use mir.MapTy.{inst_fn}
use base.Logic.{SProp, ent}
use prog.Memory.{Memory}
use prog.Routine.{Routine}
use prog.Wp.{WpFn, Tables}
use types.Logic.{Logic}
use contract.BorrowLft.{◌⊑◌}
use contract.Monad.{Fun, fact}
use contract.Running.{tables, tables_of}
use denote.RattleType.{owns}
use denote.Signature.{plain, types_at}
use denote.Steps.{heard, nothing}
use denote.Struct.Lending.{in_block_says, lent_out}
use denote.Triple.Clauses.{Clauses, Ended, closing}
use denote.Triple.Spec.{Meets, triple_of}
use denote.Triple.Table.{entered}
use sound.WpLaws.{WpFn-mono}
use types.Kit.{‵, raw, ◌⊛◌, prop, at_ret, ◌$◌, ◌∵◌, !, qed, move, keep, use1, drop, split, regoal, fsplit, fjoin, feq_i, suffices, done}
use types.Run.{stop, addr, of_opd, first, blocks, exec, returns, enter}
use types.ByLocal.{alloc_all, pass_all, free_all, look_at, get, through, sets, sets_last, env}
use denote.Exit.{yes}
use denote.Builtin.{RefOf}
use denote.Memory.{mem, hidden_shr}
use denote.Opens.{unhide, hide}
use denote.RawPtr.{Ptr, RawPtr, InBlock, block_ptr, block_of, count_of, at_block, ◌+ₚ◌, rawptr_vals, rawptr_Tells}
use denote.Ref.{shr_vals, shr_Tells}
use denote.Struct.Struct.{Struct}
use denote.Struct.Owning.{shape}
use denote.Triple.Walked.{says, Stays, stay_dropped, walk_of, ends_at, walked, Goes-dropped, walk_Meets}
use Rattle.core.proofs.slots.Bodies.{after}
use Rattle.ring_arena.proofs.Items.{some_item, same_place, item_lent}
use Rattle.std.proofs.Common.{slice_get, Some}
use Rattle.std_alloc.proofs.VecSteps.El.{El, args, el_x, el_d, R, Vr, P, owning}
use Rattle.std_alloc.specs.contracts.vec.Vec as vec-type
use Rattle.ring_arena.specs.contracts.places.behind as F
use Rattle.ring_arena.specs.contracts.places.behind.Key.{name as #self}
use Rattle.ring_arena.proofs.places.behind.Statement as stated
use Rattle.ring_arena.proofs.places.behind.Code as code

module _ (E : El) where
  abbrev here : Fn
  here = inst_fn (args E) code.function

  abbrev ended : Ended
  ended = F.ended E.row E.al.row E.al.g E.al.d E.al.drops

  abbrev stayed : Stays ended.signature.params ended.kept
  stayed = (stay_dropped (RefOf (0 ∷ []) tt (plain (λ _. Vr E)) (λ _. tt)) yes, (stay_dropped (plain (λ _. RawPtr)) yes, tt))

  module _ {M : Type 1} {𝓤 : Ura M} (𝓛 : Logic 𝓤) (at_mem : Memory → SProp 𝓤) (run : Routine → Fun 𝓤) (𝓣 : Tables 𝓤 𝓛.H) where
    open 𝓛 use {H}

    abbrev held : Clauses 𝓤 ended
    held = F.clauses E.row E.al.row E.al.g E.al.d E.al.drops 𝓛 at_mem run

    abbrev Bound : Type 0
    Bound = (walk_of 𝓛 ended stayed held).Ghost

    abbrev Goes : Bound → Type 1
    Goes y = ent 𝓤 ((walk_of 𝓛 ended stayed held).pre y) (WpFn 𝓤 H 𝓣.C 𝓣.Λ here ((walk_of 𝓛 ended stayed held).args y) ((walk_of 𝓛 ended stayed held).post y))

    abbrev spelled : Bound → Bound
    spelled z = ((z.0.0, z.0.1, z.0.2, z.0.3, (shr_vals z.0.3.0, (rawptr_vals z.0.3.1.0, tt))), z.1)

    walk : (z : Bound) → Goes (spelled z)
    walk z =
        let κ = z.0.0.0 in let κ₁ = z.0.0.1.0 in let κ₂ = z.0.0.1.1.0 in let q = z.0.1.0 in let q₁ = z.0.1.1.0 in let q₂ = z.0.1.1.1.0 in
        let rb : ℕ = z.0.3.0.ref_ptr.0 in let ro : ℕ = z.0.3.0.ref_ptr.1 in let d : el_d E = z.0.3.0.now in
        let at : Ptr = z.0.3.1.0 in let s : ℕ = (mem (R E)).size in let xs : List (el_x E) = d.items in
        let Post : Val → SProp 𝓤 = (walk_of 𝓛 ended stayed held).post (spelled z) in
        let Ok : Type 0 = (i : ℕ) × (i < length xs) × (at ≡ d.ptr +ₚ i * s) in
        qed 𝓛 (((‵ (flft κ q) ⊛ ‵ (flft κ₁ q₁) ⊛ ‵ (flft κ₂ q₂) ⊛ ‵ ftrue) ⊛ ‵ (owns (types_at ended.signature.params z.0.0) z.0.3 (spelled z).0.4)) ∷ (raw (fact 𝓤 (κ₁ ⊑ E.row.lives)) ⊛ raw (fact 𝓤 (κ₂ ⊑ E.al.row.lives)) ⊛ raw (fact 𝓤 Ok)) ∷ []) ∵
        move ! (1 ∷ []) $ split ! $ drop ! $ split ! $ drop ! $ heard ! Ok (λ ok.
        let i : ℕ = ok.0 in let held_at = some_item xs i ok.1 in let x : el_x E = held_at.0 in
        split ! $ move ! (1 ∷ []) $ fsplit ! $ fsplit ! $ drop ! $
        use1 𝓛 (‵ (hidden_shr (Struct (shape (owning E))) κ (d.ptr, (d.len, (d.cap, (d.alloc, tt)))) rb ro) ⊛ ‵ (fhide (vec-type.the_lent (R E) (P E) E.al.g d d.ptr κ))) (lent_out 𝓛 (vec-type.struct (R E) (P E) E.al.g) (vec-type.the_codes (el_x E) (P E).Denot (R E).coded (P E).coded) (vec-type.the_heap (R E) (P E) E.al.g) (vec-type.the_lent (R E) (P E) E.al.g) κ d rb ro) $ split ! $ drop ! $
        unhide ! $ fsplit ! $ drop ! $ fsplit ! $ use1 𝓛 (raw (fact 𝓤 (InBlock d.ptr))) (in_block_says 𝓛 d.ptr) $ heard ! (InBlock d.ptr) (λ inb.
        let b : ℕ = block_of d.ptr in let o : ℕ = count_of d.ptr in
        let base : d.ptr ≡ block_ptr b o = at_block d.ptr inb in
        let there : at ≡ block_ptr b (o + i * s) = ok.2 ∙ ap (λ (p : Ptr). p +ₚ i * s) base in
        fsplit ! $ drop ! $ hide ! $
        use1 𝓛 (‵ (hidden_shr (R E) κ x b (o + i * s))) (item_lent (R E) 𝓛 κ b o xs i x held_at.1) $ move ! (1 ∷ []) $ drop ! $
        -- [what a `&` to the element holds; the tokens]
        regoal ! (λ (p : Ptr). prop (WpFn 𝓤 H 𝓣.C 𝓣.Λ here (vptr rb ro ∷ rawptr_vals p) Post)) there refl $
        enter ! 𝓣.C 𝓣.Λ here (vptr rb ro ∷ vptr b (o + i * s) ∷ []) _ $ alloc_all ! (λ l. pass_all ! refl ((tt, tt), ((tt, tt), tt)) $
        first ! $ blocks ! $ sets_last ! (addr ! (through ! refl (stop !))) refl (tt, tt) $
        exec ! 𝓣.C 𝓣.Λ (env here.locals l) (after 1 here.body) (at_ret (env here.locals l) Post) $ sets ! (of_opd ! (get ! refl)) refl (tt, tt) $
        returns ! (look_at ! 0 refl) $ free_all ! refl $
        suffices ! _ (ends_at 𝓛 ended stayed held (spelled z) (vptr b (o + i * s)) (record { ref_ptr = (b, o + i * s); now = x }) (tt, (tt, tt)) (tt, (tt, tt))) $
        says ! (λ j l room e. subst (λ (k : ℕ). slice_get xs k ≡ Some x) (same_place d.ptr inb s i j room (sym ok.2 ∙ e)) held_at.1) $
        feq_i ! (List Val) (vptr b (o + i * s) ∷ []) (vptr b (o + i * s) ∷ []) refl $ fjoin ! $
        nothing ! $ nothing ! $ fjoin ! $ nothing ! $ fjoin ! $ keep ! (2 ∷ 0 ∷ 1 ∷ []) $ done !)))

    meets : Meets 𝓛 ended.signature (WpFn 𝓤 H 𝓣.C 𝓣.Λ here) (closing 𝓛 ended held)
    meets =
        walk_Meets 𝓛 ended stayed (Goes-dropped 𝓛 3 (RefOf (0 ∷ []) tt (plain (λ _. Vr E)) (λ _. tt)) yes (λ κs x f. refl), (Goes-dropped 𝓛 3 (plain (λ _. RawPtr)) yes (λ κs x f. refl), tt)) held
        (WpFn 𝓤 H 𝓣.C 𝓣.Λ here) (WpFn-mono 𝓤 H 𝓛.laws 𝓣 here)
        (walked 𝓛 ended stayed held (WpFn 𝓤 H 𝓣.C 𝓣.Λ here) (λ κs. (shr_vals, (rawptr_vals, tt))) (λ κs. (shr_Tells (named 0) κs.0 (Vr E), (rawptr_Tells, tt)))
        (λ κs qs bounds a g are. walk ((κs, qs, bounds, a, (shr_vals a.0, (rawptr_vals a.1.0, tt))), g)))

pub behind_spec : {M : Type 1} → stated.statement M
unfolding tables_of
behind_spec 𝓤 𝓛 𝓜 𝓡 wired X Z L LZ g d dd met md =
    let E : El = record { row = X; laws = L; al = record { row = Z; laws = LZ; g = g; d = d; drops = dd } } in
    let 𝓣 : Tables 𝓤 𝓛.H = tables_of 𝓤 𝓛.H 𝓜 (tables 𝓤 𝓛.H 𝓜 𝓡 𝓡.env) in
    entered 𝓤 𝓛.H (triple_of 𝓛 (F.signature X Z g d dd) (F.spec X Z g d dd 𝓛 𝓜.mem 𝓡.returns)) 𝓣.C 𝓣.Λ (#self (args E)) (here E) (code.unfolded 𝓤 𝓛.H 𝓜 𝓡 wired (X, (Z, tt)) d dd)
    (meets E 𝓛 𝓜.mem 𝓡.returns 𝓣)
