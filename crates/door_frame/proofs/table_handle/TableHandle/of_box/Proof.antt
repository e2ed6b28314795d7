-- `of_box` keeps the pointer of the box, and what the box owned behind it.
use Rattle.std.proofs.Common.{◌≡◌, List, [], ◌∷◌, ◌++◌, refl, sym, subst}
use mir.Val.{Val, vptr}
use base.Logic.{SProp, ent, emp, id⊢}
use prog.Wp.{WpFn}
use types.Kit.{‵, raw, ◌⊛◌, ◌$◌, ◌∵◌, !, qed, by, keep, split, move, drop, fsplit, fjoin, rewrite, suffices, use0}
use types.Run.{of_opd, no_more, and_then, returns, enter}
use types.ByLocal.{alloc_all, pass_all, free_all, look_at, get, lands_as, sets}
use types.Part.{agg}
use contract.Monad.{fact, fact_i}
use contract.Running.{tables}
use denote.Exit.{yes}
use denote.RattleType.{owns}
use denote.Signature.{types_at, plain}
use denote.RawPtr.{block_ptr}
use denote.Steps.{nothing}
use denote.Param.{layout}
use denote.Param.NoDrop.{glues}
use denote.Triple.Call.{calls_at}
use denote.Triple.Entry.{alive}
use denote.Triple.Table.{framed}
use denote.Triple.Walked.{Stays, stay_dropped, walk_of}
use Rattle.std.proofs.alloc.Calls.{Goes-blank}
use Rattle.std.proofs.cell.Inside.{one}
use Rattle.std.proofs.raw_atomic.Walks.{proved_at, leaves}
use Rattle.std.proofs.boxed.Box.TheLaws as box_laws
use Rattle.std.proofs.boxed.Box.into_raw.Met.{met}
use Rattle.std.proofs.impls.GlobalAllocator.TheImpl.Met as heap_met
use Rattle.std.specs.contracts.alloc.Global as heap
use Rattle.std.proofs.alloc.Global.TheLaws as heap_laws
use Rattle.std.specs.contracts.impls.GlobalAllocator.TheImpl.{ghosts, dict}
use Rattle.std.specs.declared.option.Option.{Option}
use Rattle.std.specs.declared.option.Option.TheVariants.{Some}
use Rattle.program_frame.specs.contracts.known_table.KnownTable as known
use Rattle.program_frame.proofs.known_table.KnownTable.TheLaws as known_laws
use Rattle.door_frame.proofs.TableHandleSteps.{word, handle_in, Table, Heap, Table-laws, Heap-laws, B, Raw}
use Rattle.door_frame.proofs.TableHandleSteps.{raw_at, raw_asked, raw_given, heap_drop, table_drop, table_glue}
use Rattle.door_frame.specs.contracts.table_handle.TableHandle.of_box.{ended, clauses}
use Rattle.door_frame.specs.contracts.table_handle.TableHandle.of_box.Key.{name as #self}
use Rattle.door_frame.proofs.table_handle.TableHandle.of_box.Statement.{statement}
use Rattle.door_frame.proofs.table_handle.TableHandle.of_box.Code as code

pub of_box_spec : {M : Type 1} → statement M
unfolding Rattle.door_frame.proofs.Destruct++none.drop.Code.code
of_box_spec {M} 𝓤 𝓛 𝓜 𝓡 wired =
    let H = 𝓛.H in let 𝓣 = tables 𝓤 H 𝓜 𝓡 𝓡.env in let γ = 𝓡.env in let c = clauses 𝓛 𝓜.mem 𝓡.returns in let fn = code.function in
    let LB = box_laws.the_row_laws known.the_row heap.the_row ghosts known_laws.the_row_laws heap_laws.the_row_laws in
    let hs : Stays ended.signature.params ended.kept = (stay_dropped (plain (λ _. B)) yes, tt) in
    let allocates = heap_met.passed γ (code.calls-std_heap::GlobalAllocator::allocate γ wired) (code.calls-std_heap::GlobalAllocator::deallocate γ wired)
    (code.calls-std_heap::GlobalAllocator::grow γ wired) (code.calls-std_heap::GlobalAllocator::shrink γ wired) M 𝓤 𝓛 𝓜 𝓡 in
    let heap_glue = glues "door_frame::Destruct++none::drop" γ (code.calls-door_frame::Destruct++none::drop γ wired) Heap Heap-laws M 𝓤 𝓛 𝓜 𝓡 in
    let glued = table_glue 𝓛 𝓜 𝓡 (code.calls-door_frame::program_frame++known_table++KnownTable+Destruct::drop γ wired) in
    let callee = met 𝓤 𝓛 𝓜 𝓡 (code.calls-std_alloc::boxed::Box::into_raw γ wired)
    Table Heap Table-laws Heap-laws ghosts dict heap_drop table_drop allocates heap_glue glued in
    proved_at 𝓛 ended hs c 𝓜 𝓡 (Goes-blank 𝓛 0 (plain (λ _. B)) yes (λ κs x f. tt), tt) #self fn (code.unfolded 𝓤 H 𝓜 𝓡 wired) (λ z are.
    let κs = z.0.0 in let qs = z.0.1 in let d = z.0.3.0 in let Post : Val → SProp 𝓤 = (walk_of 𝓛 ended hs c).post z in
    let Run : List Val → SProp 𝓤 = λ ws. WpFn 𝓤 H 𝓣.C 𝓣.Λ fn ws Post in
    let k : Option known.the_row.Denot = Some d.value in let w = one (layout B) z.0.4.0 ((LB.lawful 𝓛).typed d z.0.4.0 are.0) in
    qed 𝓛 ((raw (alive 𝓛 ended.signature κs qs) ⊛ ‵ (owns (types_at ended.signature.params κs) z.0.3 z.0.4)) ∷ raw ((c κs z.0.3).requires z.1) ∷ [])
    ∵ split ! $ keep ! (1 ∷ 0 ∷ []) $ fsplit ! $ rewrite ! 0 (λ us. ‵ (B.own_val d us)) w.1 refl $ move ! (1 ∷ []) $ drop ! $
    suffices ! (Run (w.0 ∷ [])) (subst (λ (us : List Val). ent 𝓤 (Run (w.0 ∷ [])) (Run us)) (sym (λ i. w.1 i ++ [])) (id⊢ 𝓤 (Run (w.0 ∷ [])))) $
    -- [the box; the tokens; the locals]
    enter ! 𝓣.C 𝓣.Λ fn (w.0 ∷ []) Post $ alloc_all ! (λ l. pass_all ! refl (w.2, tt) $ sets ! (of_opd ! (get ! refl)) refl w.2 $
    raw_asked 𝓛 𝓜 𝓡 ! d w.0
    $ calls_at ! (framed 𝓤 H 𝓜 𝓣) (Raw 𝓛 𝓜 𝓡) callee (raw_at 𝓛 𝓜 𝓡 d w.0) (and_then ! (get ! refl) (no_more !)) (λ u. raw_given 𝓛 𝓜 𝓡 ! tt d w.0 u (λ b o e.
    lands_as ! e refl (tt, tt) $ sets ! (of_opd ! (get ! refl)) refl (tt, tt) $ sets ! (agg ! (and_then ! (get ! refl) (no_more !))) refl (tt, (tt, tt)) $
    handle_in ! (block_ptr b o) k $ use0 𝓛 (raw (fact 𝓤 (k ≡ k))) (fact_i 𝓤 (k ≡ k) (emp 𝓤) refl) $ nothing ! $ nothing ! $ fjoin ! $
    returns ! (look_at ! 0 refl) $ free_all ! refl $ keep ! (3 ∷ 0 ∷ 2 ∷ 1 ∷ [])
    $ by ! (leaves 𝓛 ended hs c z (word (vptr b o)) (record { inside = block_ptr b o; known = k }) (tt, tt) (tt, tt))))))
