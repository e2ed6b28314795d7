-- The machine value of a `TableHandle`, the two cases of what it owns, and the two calls that turn a box into it and back. Assumes `Logic`.
--     handle_in, handle_out     what a handle owns, made and taken apart
--     table_glue                the drop of a table is one that a generic callee may ask for
--     raw_asked, raw_given      what `Box::into_raw` asks of the box of a table, and what a handle has of what it gives
--     box_asked, box_given      what `Box::from_raw` asks, and the box that it gives
use Rattle.std.proofs.Common.{◌≡◌, ℕ, List, [], ◌∷◌, ◌++◌, refl, subst, ap, ◌∙◌}
use lib.Dec.{T}
use seplogic.Ra.Ura.{Ura}
use mir.Val.{Val, vptr, vstruct, vcons, vnil, vnull, of_list, has_ty, WT}
use mir.Raw.{raw as bare}
use mir.Syntax.{Dict, impl, method, no_args, tcons, tnil, dnil}
use base.Fraction.{full_share}
use base.Logic.{ent, guard, guard_i, never_e, snd∗, via, id⊢, emp, never, fst∗}
use base.Fml.{Fml, ftrue, flft}
use prog.Model.{Model}
use prog.Wired.{Wired}
use types.Logic.{Logic, sem}
use types.Kit.{Item, Goal, Seq, Step, step, ‵, given, ◌$◌, drop, learn, use1, fsplit, fjoin, fpick}
use types.Kit.{fpack, feq_i, feq_l, raw, ◌⊛◌, some, later, move, use0, join, split, pick, await, Soaks}
use contract.Monad.{fact_use, fact, fact_i}
use contract.BorrowLft.{◌⊑◌, ⊑_refl}
use contract.Running.{Running}
use denote.RattleType.{RattleType, Valss}
use denote.Builtin.{RawPtr}
use denote.Memory.{lone}
use denote.RawPtr.{Ptr, block_ptr, null_ptr, ptr_val, lies_at, Testable, in_a_block}
use denote.Steps.{nothing, only, heard, peeks}
use denote.Struct.Struct.{within}
use denote.Struct.Owning.{shape}
use denote.Laws.{shows}
use denote.Exit.{no}
use denote.Param.{layout, arg}
use denote.Param.Laws.{Laws, arg_laws}
use denote.Param.Glue as glue
use denote.Triple.Carry.{AllWithin}
use denote.Triple.Clauses.{Lasts, lasts, at_exit}
use denote.Triple.Spec.{triple_of}
use denote.Triple.Statement.{Contract}
use denote.Triple.Walked.{Fit}
use borrow.Fn.Glue.{glue_by, glue_ps}
use borrow.Fn.Impl.{via_longer, method_Known}
use borrow.Fn.Kinds.{ended_of, stays, r_unit}
use borrow.Fn.Run.{Over}
use borrow.Fn.World.{World}
use Rattle.std.specs.declared.option.Option.{Option}
use Rattle.std.specs.declared.option.Option.TheVariants.{None, Some}
use Rattle.std.specs.Box.Ownership.{box_owns}
use Rattle.std.specs.declared.alloc.Global.{Global}
use Rattle.std.specs.contracts.impls.GlobalAllocator.TheImpl.{ghosts, dict}
use Rattle.std.proofs.GlobalToken.{dealloc_token-Testable}
use Rattle.std.proofs.boxed.Box.TheLaws as box_laws
use Rattle.std.specs.contracts.alloc.Global as heap
use Rattle.std.specs.contracts.boxed.Box as box
use Rattle.std.specs.contracts.boxed.Box.into_raw as into_raw
use Rattle.std.specs.contracts.boxed.Box.from_raw as from_raw
use Rattle.std.proofs.alloc.Global.TheLaws as heap_laws
use Rattle.program_frame.specs.contracts.known_table.KnownTable as known
use Rattle.program_frame.proofs.known_table.KnownTable.TheLaws as known_laws
use Rattle.door_frame.specs.Handle.{kept}
use Rattle.door_frame.specs.contracts.table_handle.TableHandle as handle
use Rattle.door_frame.proofs.program_frame++known_table++KnownTable+Destruct.drop.Kinds as drop_kinds
use Rattle.door_frame.proofs.program_frame++known_table++KnownTable+Destruct.drop.Reads as drop_reads
use Rattle.door_frame.proofs.program_frame++known_table++KnownTable+Destruct.drop.Symbol as drop_symbol
use Rattle.door_frame.proofs.program_frame++known_table++KnownTable+Destruct.drop.Met as drop_met

abbrev R : RattleType
R = known.the_row

abbrev pub word : Val → Val
word v = vstruct (vcons v vnil)

abbrev pub owned : Global → Ptr → R.Denot → Fml
owned alloc = box_owns (ghosts.dealloc_token alloc) R

-- the pointer to a block that may be freed may be compared with null
tested : {M : Type 1} {𝓤 : Ura M} (𝓛 : Logic 𝓤) (a : Global) (p : Ptr) (x : R.Denot) → ent 𝓤 (sem 𝓛 (owned a p x)) (guard 𝓤 (Testable p) (sem 𝓛 (owned a p x)))
tested {𝓤 = 𝓤} 𝓛 a p x = let τ = bare (lone R.mir) in
    fact_use 𝓤 (Testable p) (via 𝓤 _ (snd∗ 𝓤 (sem 𝓛 (lies_at R full_share p x)) (sem 𝓛 (ghosts.dealloc_token a τ p))) (dealloc_token-Testable 𝓛 a τ p))
    (guard_i 𝓤 (Testable p) (sem 𝓛 (owned a p x)))

module _ {M : Type 1} {𝓤 : Ura M} {𝓛 : Logic 𝓤} {K : Type 0} {Γ : List (Item 𝓤)} {G : Goal 𝓤 𝓛.H} where
  pub handle_in : K → (p : Ptr) (k : Option R.Denot)
      → Step K 𝓛 (‵ (handle.the_row.own_val (record { inside = p; known = k }) (word (ptr_val p) ∷ [])) ∷ Γ) G (‵ (kept p k) ∷ Γ) G
  handle_in t p k = step (λ s. let v : Val = word (ptr_val p) in
      nothing t $ feq_i t (List Val) (ptr_val p ∷ []) (ptr_val p ∷ []) refl $ fjoin t $ feq_i t (List Val) (v ∷ []) (v ∷ []) refl $ fjoin t $
      fpack t (Valss (RawPtr ∷ [])) (within (shape handle.the_type) (p, tt) (v ∷ [])) (ptr_val p ∷ [], tt) $ fjoin t $ s)

  pub kept_in : K → (a : Global) (b o : ℕ) (x : R.Denot) → Step K 𝓛 (‵ (kept (block_ptr b o) (Some x)) ∷ Γ) G (‵ (owned a (block_ptr b o) x) ∷ Γ) G
  kept_in t a b o x = fpack t Global (λ h. owned h (block_ptr b o) x) a

  cases : K → (p : Ptr) (k : Option R.Denot) → (p ≡ null_ptr → k ≡ None → Seq K 𝓛 Γ G)
      → ((a : Global) (b o : ℕ) (x : R.Denot) → p ≡ block_ptr b o → k ≡ Some x → Testable (block_ptr b o) → Seq K 𝓛 (‵ (owned a (block_ptr b o) x) ∷ Γ) G)
      → Seq K 𝓛 (‵ (kept p k) ∷ Γ) G
  cases t null_ptr None none one = drop t $ none refl refl
  cases t null_ptr (Some x) none one = use1 𝓛 (given ⊥ (‵ ftrue)) (never_e 𝓤 _) $ learn t (λ wrong. absurd wrong)
  cases t (block_ptr b o) None none one = use1 𝓛 (given ⊥ (‵ ftrue)) (never_e 𝓤 _) $ learn t (λ wrong. absurd wrong)
  cases t (block_ptr b o) (Some x) none one = fpick t
      (λ a. use1 𝓛 (given (Testable (block_ptr b o)) (‵ (owned a (block_ptr b o) x))) (tested 𝓛 a (block_ptr b o) x) $ learn t (λ e. one a b o x refl refl e))

  pub handle_out : K → (d : handle.the_row.Denot) (vs : List Val) → (d.known ≡ None → vs ≡ word vnull ∷ [] → Seq K 𝓛 Γ G)
      → ((a : Global) (b o : ℕ) (x : R.Denot) → d.known ≡ Some x → vs ≡ word (vptr b o) ∷ [] → Testable (block_ptr b o)
      → Seq K 𝓛 (‵ (owned a (block_ptr b o) x) ∷ Γ) G)
      → Seq K 𝓛 (‵ (handle.the_row.own_val d vs) ∷ Γ) G
  handle_out t d vs none one = fsplit t $ fpick t (λ vss. fsplit t $ feq_l t (λ ev. fsplit t $ feq_l t (λ ep. drop t $
      let said : vs ≡ word (ptr_val d.inside) ∷ [] = subst (λ (ps : List Val). vs ≡ vstruct (of_list (ps ++ [])) ∷ []) ep ev in
      cases t d.inside d.known (λ ei ek. none ek (subst (λ (p : Ptr). vs ≡ word (ptr_val p) ∷ []) ei said))
      (λ a b o x ei ek e. one a b o x ek (subst (λ (p : Ptr). vs ≡ word (ptr_val p) ∷ []) ei said) e))))

-- the table and the allocator as arguments of a generic callee
abbrev pub Table : RattleType
Table = arg (bare (layout R)) no R

abbrev pub Heap : RattleType
Heap = arg (bare (layout heap.the_row)) no heap.the_row

pub Table-laws : Laws Table
Table-laws = arg_laws (bare (layout R)) no R known_laws.the_row_laws refl

pub Heap-laws : Laws Heap
Heap-laws = arg_laws (bare (layout heap.the_row)) no heap.the_row heap_laws.the_row_laws refl

-- the drops that MIR names where a callee asks for them: that of a table, and that of `Global`, which does nothing
abbrev pub table_drop : Dict
table_drop = impl ("door_frame::program_frame++known_table++KnownTable+Destruct::drop" ∷ []) tnil dnil

abbrev pub heap_drop : Dict
heap_drop = impl ("door_frame::Destruct++none::drop" ∷ []) (tcons (layout Heap) tnil) dnil

pub table_glue : {M : Type 1} {𝓤 : Ura M} (𝓛 : Logic 𝓤) (𝓜 : Model 𝓤 𝓛.H) (𝓡 : Running 𝓤 𝓛.H 𝓜) → Wired 𝓡.env drop_symbol.code
    → glue.Met 𝓛 𝓜 𝓡 𝓡.env Table table_drop
table_glue {M} {𝓤} 𝓛 𝓜 𝓡 wired =
    let L = Table-laws in let ps = drop_kinds.ps in let E = ended_of 0 ps drop_kinds.r in let f = method table_drop 0 no_args in
    let w : World = record { M = M; 𝓤 = 𝓤; 𝓛 = 𝓛; 𝓜 = 𝓜; 𝓡 = 𝓡 } in
    glue_by Table L w table_drop 𝓡.env (λ κs a. Lasts E tt a) (λ κs a. lasts E tt a) (λ κs a x ws. Fit E (stays ps) tt a ws
    × drop_reads.Learnt tt a x (at_exit E tt a ws)) (λ κs a. AllWithin 1 (κs.0, tt) (Table.lives, tt) × Unit {0}) 0 tt (λ κs a h. ((h, tt), tt))
    (via_longer 𝓛 (Over 𝓛 𝓜 𝓡 𝓡.env) 1 (glue_ps Table L) r_unit (λ κs a. Lasts E tt a) (λ κs a. lasts E tt a)
    (λ κs a x ws. Fit E (stays ps) tt a ws × drop_reads.Learnt tt a x (at_exit E tt a ws)) (λ κs a. AllWithin 1 (κs.0, tt) (Table.lives, tt) × Unit {0}) f 0 tt
    (λ κs. tt) (λ κs a. drop_reads.Asked tt a) (λ κs a p. (tt, tt))
    (λ κs bd within a vss qs. method_Known 0 ps drop_kinds.r drop_reads.requires drop_reads.ensures drop_reads.Asked drop_reads.Learnt drop_reads.known w
    drop_symbol.name f (drop_symbol.as_method 𝓡.env wired f refl) (drop_met.met 𝓤 𝓛 𝓜 𝓡 wired) ((tt, qs, tt, a, vss), tt)))

abbrev pub B : RattleType
B = box.the_row R heap.the_row ghosts

module _ {M : Type 1} {𝓤 : Ura M} (𝓛 : Logic 𝓤) (𝓜 : Model 𝓤 𝓛.H) (𝓡 : Running 𝓤 𝓛.H 𝓜) where
  abbrev pub Raw : Contract 𝓤
  Raw =
      triple_of 𝓛 (into_raw.signature Table Heap ghosts dict heap_drop table_drop) (into_raw.spec Table Heap ghosts dict heap_drop table_drop 𝓛 𝓜.mem 𝓡.returns)

  -- a table has no lifetime, so the callee is asked at none
  abbrev pub raw_at : B.Denot → Val → Raw.Ghost
  raw_at d w = ((([], ([], tt)), (full_share, (full_share, tt)), tt, (d, tt), (w ∷ [], tt)), tt)

  module _ {K : Type 0} {Γ : List (Item 𝓤)} {G : Goal 𝓤 𝓛.H} where
    no_lifetimes : K → Step K 𝓛 ((‵ (flft [] full_share) ⊛ ‵ (flft [] full_share) ⊛ ‵ ftrue) ∷ Γ) G Γ G
    no_lifetimes t = step (λ s. nothing t $ use0 𝓛 (‵ (flft [] full_share)) (𝓛.lfts.lft-nil full_share) $ join t
        $ use0 𝓛 (‵ (flft [] full_share)) (𝓛.lfts.lft-nil full_share) $ join t $ s)

    within_none : K → Step K 𝓛 ((raw (fact 𝓤 ([] ⊑ Table.lives)) ⊛ raw (fact 𝓤 ([] ⊑ Heap.lives)) ⊛ ‵ ftrue) ∷ Γ) G Γ G
    within_none t = step (λ s. nothing t $ use0 𝓛 (raw (fact 𝓤 ([] ⊑ Heap.lives))) (fact_i 𝓤 ([] ⊑ Heap.lives) (emp 𝓤) (⊑_refl [])) $ join t $
        use0 𝓛 (raw (fact 𝓤 ([] ⊑ Table.lives))) (fact_i 𝓤 ([] ⊑ Table.lives) (emp 𝓤) (⊑_refl [])) $ join t $ s)

  module _ {K : Type 0} {Γ : List (Item 𝓤)} {G : Goal 𝓤 𝓛.H} where
    pub raw_asked : K → (d : B.Denot) (w : Val) → Step K 𝓛 (raw (Raw.pre (raw_at d w)) ∷ Γ) G (‵ (B.own_val d (w ∷ [])) ∷ Γ) G
    raw_asked t d w = step (λ s. nothing t $ move t (1 ∷ 0 ∷ []) $ fjoin t $ no_lifetimes t $ join t $ within_none t $ move t (1 ∷ 0 ∷ []) $ join t
        $ use1 𝓛 (raw (Raw.pre (raw_at d w))) (id⊢ 𝓤 _) $ s)

    pub raw_given : K → Soaks G → (d : B.Denot) (w u : Val) → ((b o : ℕ) → u ≡ vptr b o → Seq K 𝓛 (‵ (kept (block_ptr b o) (Some d.value)) ∷ Γ) G)
        → Seq K 𝓛 (raw (Raw.post (raw_at d w) u) ∷ Γ) G
    raw_given t soaks d w u go =
        let ended = into_raw.ended Table Heap ghosts dict heap_drop table_drop in let y = raw_at d w in
        use1 𝓛 (later (some (λ (p : Ptr). ((‵ (flft [] full_share) ⊛ ‵ (flft [] full_share) ⊛ ‵ ftrue) ⊛ ‵ (RawPtr.own_val p (u ∷ [])))
        ⊛ some (λ (ls : Lasts ended y.0.0 y.0.3). ‵ (lasts ended y.0.0 y.0.3 ls) ⊛ ‵ (owned d.alloc p d.value))))) (id⊢ 𝓤 _) $
        await t soaks $ pick t (λ p. split t $ split t $ drop t $ feq_l t (λ told. pick t (λ ls. split t $ drop t $
        in_a_block t p (λ q. owned d.alloc q d.value) (fst∗ 𝓤 (never 𝓤) (sem 𝓛 (ghosts.dealloc_token d.alloc (bare (lone R.mir)) null_ptr)))
        (λ b o e. kept_in t d.alloc b o d.value $ go b o (ap only told ∙ ap ptr_val e)))))

  abbrev pub Boxed : Contract 𝓤
  Boxed = triple_of 𝓛 (from_raw.signature Table Heap ghosts dict heap_drop) (from_raw.spec Table Heap ghosts dict heap_drop 𝓛 𝓜.mem 𝓡.returns)

  -- the block at (b, o), of the table x, for the allocator a with the machine value h
  abbrev pub box_at : Global → Val → ℕ → ℕ → R.Denot → Boxed.Ghost
  box_at a h b o x = ((([], ([], tt)), (full_share, (full_share, tt)), tt, (a, (block_ptr b o, tt)), (h ∷ [], (vptr b o ∷ [], tt))), x)

  module _ {K : Type 0} {Γ : List (Item 𝓤)} {G : Goal 𝓤 𝓛.H} where
    pub box_asked : K → (a : Global) (h : Val) (b o : ℕ) (x : R.Denot)
        → Step K 𝓛 (raw (Boxed.pre (box_at a h b o x)) ∷ Γ) G (‵ (owned a (block_ptr b o) x) ∷ ‵ (heap.the_row.own_val a (h ∷ [])) ∷ Γ) G
    box_asked t a h b o x = step (λ s.
        -- the block may be freed, and no lifetime of the table or the allocator is over
        use0 𝓛 (raw (fact 𝓤 ([] ⊑ Heap.lives))) (fact_i 𝓤 ([] ⊑ Heap.lives) (emp 𝓤) (⊑_refl [])) $ join t
        $ use0 𝓛 (raw (fact 𝓤 ([] ⊑ Table.lives))) (fact_i 𝓤 ([] ⊑ Table.lives) (emp 𝓤) (⊑_refl [])) $ join t $
        -- the two arguments
        nothing t $ feq_i t (List Val) (vptr b o ∷ []) (vptr b o ∷ []) refl $ fjoin t $ move t (2 ∷ 0 ∷ []) $ fjoin t $ no_lifetimes t $ join t $ join t
        $ use1 𝓛 (raw (Boxed.pre (box_at a h b o x))) (id⊢ 𝓤 _) $ s)

    pub box_given : K → Soaks G → (a : Global) (h : Val) (b o : ℕ) (x : R.Denot) (u : Val)
        → ((d : B.Denot) → d.value ≡ x → T (has_ty (layout B) u) × WT u → Seq K 𝓛 (‵ (B.own_val d (u ∷ [])) ∷ Γ) G)
        → Seq K 𝓛 (raw (Boxed.post (box_at a h b o x) u) ∷ Γ) G
    box_given t soaks a h b o x u go =
        let ended = from_raw.ended Table Heap ghosts dict heap_drop in let y = box_at a h b o x in
        let laws = box_laws.the_row_laws R heap.the_row ghosts known_laws.the_row_laws heap_laws.the_row_laws in
        use1 𝓛 (later (some (λ (d : B.Denot). ((‵ (flft [] full_share) ⊛ ‵ (flft [] full_share) ⊛ ‵ ftrue) ⊛ ‵ (B.own_val d (u ∷ [])))
        ⊛ some (λ (ls : Lasts ended y.0.0 y.0.3). ‵ (lasts ended y.0.0 y.0.3 ls) ⊛ (raw (fact 𝓤 (d.value ≡ x)) ⊛ raw (fact 𝓤 (d.alloc ≡ a))))))) (id⊢ 𝓤 _) $
        await t soaks
        $ pick t (λ d. split t $ split t $ drop t $ move t (1 ∷ []) $ pick t (λ ls. split t $ drop t $ split t $ heard t (d.value ≡ x) (λ same. drop t $
        peeks t B _ (shows 𝓛 B) d (u ∷ []) (λ is. go d same ((laws.lawful 𝓛).typed d (u ∷ []) is).0))))
