-- A handle of C keeps the pointer of a box, or null, beside the allocator. It owns what the parts of the box own, so the calls of each handle go
-- alike.
use mathlib.Core.Path.{◌≡◌, refl, sym, subst, ap, ◌∙◌}
use mathlib.Core.List.{List, [], ◌∷◌, ◌++◌}
use lib.Dec.{lit<}
use seplogic.Ra.Ura.{Ura}
use mir.Raw.{raw as bare}
use mir.Syntax.{Fn, Sym, Ty, impl, tnil, tcons, dnil, local, value_local, ty_ptr, ty_struct, place, field, copy, int, w64, assign, rv_opd, aggregate, seq, return}
use mir.Val.{Val, vstruct, of_list}
use base.Logic.{SProp, ent, emp, id⊢}
use base.Fml.{Fml, ftrue, fsep}
use base.Shift.{Keyless}
use prog.Wp.{WpFn, Tables}
use types.Logic.{Logic, sem}
use contract.Monad.{fact}
use sound.WpLaws.{WpFn-mono}
use types.Kit.{Item, ‵, raw, ◌⊛◌, ◌$◌, ◌∵◌, !, qed, by, move, drop, use1, join, split, rewrite, fsplit, fjoin, fpack, feq_i, suffices, done}
use types.Part.{whole, sub, agg}
use types.Run.{stop, fld, lit, no_more, and_then, of_opd, returns, enter}
use types.ByLocal.{alloc_all, pass_all, free_all, look_at, get, get_in, sets}
use denote.Exit.{yes, Last, left}
use denote.Memory.{lone}
use denote.Param.Laws.{Laws}
use denote.Param.Send.{IsSend}
use denote.RattleType.{RattleType, Valss}
use denote.RawPtr.{Ptr, null_ptr, ptr_val}
use denote.Signature.{plain}
use denote.Steps.{heard, nothing}
use denote.Struct.Owning.{fields, shape}
use denote.Struct.Struct.{Struct, within}
use denote.Triple.Clauses.{Clauses, Ended, closing}
use denote.Triple.Spec.{Meets}
use denote.Triple.Walked.{says, Stays, stay_dropped, walk_of, ends_at, Goes-dropped, walk_Meets}
use Rattle.core.proofs.alloc.Calls.{α, handle_tells}
use Rattle.std.proofs.Crossing as crossing
use Rattle.std.specs.Prelude.{◌≢◌, Option, Some, None}
use Rattle.std.specs.Global.{Global}
use Rattle.std_alloc.proofs.BoxSteps.Form.{Bx, B, D, owning, word, box_typed}
use Rattle.std_alloc.proofs.BoxSteps.Steps.{box_out, box_in}
use Rattle.std_alloc.proofs.ResultValues.{and_tt}
use Rattle.std_alloc.proofs.SendSync.{lies}
use Rattle.std_heap.specs.contracts.Global as Heap
use Rattle.std_heap.specs.contracts.GlobalAllocator.TheImpl.{ghosts, dict}
use Rattle.std_heap.proofs.Global.TheLaws as heap
use Rattle.dccp_c.specs.Keeping.{kept_owns}

-- a box of the heap with a value of this type
abbrev pub boxed : (row : RattleType) → Laws row → Bx
boxed row laws =
    record {
      row = row;
      laws = laws;
      al = record { row = Heap.the_row; laws = heap.the_row_laws; g = ghosts; d = dict; drops = impl [] tnil dnil };
    }

-- What a handle owns may go to another thread if its value may: its box is freed there as well as here.
pub owned : (row : RattleType) → IsSend row → (alloc : Global) (p : Ptr) (held : Option row.Denot) → Keyless (kept_owns row alloc p held)
owned row sent alloc p None = tt
owned row sent alloc p (Some held) = (lies row sent p held, crossing.frees.frees alloc (bare (lone row.mir)) p)

-- A handle, and the parts of a box that it keeps. What they own is what the box owns, and a handle without a value owns its allocator alone.
pub record Handle (E : Bx) : Type 2 where
  pub name : Sym
  pub row : RattleType
  pub parts_name : Sym
  pub parts : RattleType
  pub value : row.Denot → Option E.row.Denot
  pub given : parts.Denot → E.row.Denot
  pub box_of : parts.Denot → D E
  pub handle_of : parts.Denot → row.Denot
  pub parts_of : row.Denot → E.row.Denot → parts.Denot
  pub null_of : E.al.row.Denot → row.Denot
  pub keeps : (p : parts.Denot) → value (handle_of p) ≡ Some (given p)
  pub gives : (d : row.Denot) (x : E.row.Denot) → given (parts_of d x) ≡ x
  pub is_null : (a : E.al.row.Denot) → value (null_of a) ≡ None
  pub is_kept : (d : row.Denot) (x : E.row.Denot) → value d ≡ Some x → d ≡ handle_of (parts_of d x)
  pub parts_own : (p : parts.Denot) (vs : List Val) → parts.own_val p vs ≡ (B E).own_val (box_of p) vs
  pub handle_owns : (p : parts.Denot) (vs : List Val) → row.own_val (handle_of p) vs ≡ (B E).own_val (box_of p) vs
  pub null_owns : (a : E.al.row.Denot) (vs : List Val)
      → row.own_val (null_of a) vs ≡ fsep ((Struct (shape (owning E))).own_val (null_ptr, (a, tt)) vs) ftrue
  pub last : (d : row.Denot) → Last (row.exit yes) d
  pub silent : (d : row.Denot) (f : Last (row.exit yes) d) → left (row.exit yes) d f ≡ ftrue
  pub parts_last : (p : parts.Denot) → Last (parts.exit yes) p
  pub parts_silent : (p : parts.Denot) (f : Last (parts.exit yes) p) → left (parts.exit yes) p f ≡ ftrue

-- a call with one argument
abbrev ended : RattleType → RattleType → Ended
ended from to =
    record {
      signature = record { lifetimes = 0; outlives = []; params = plain (λ κs. from) ∷ []; result = plain (λ κs. to) };
      kept = (yes, tt);
    }

abbrev stays : (from to : RattleType) → Stays (ended from to).signature.params (ended from to).kept
stays from to = (stay_dropped (plain (λ _. from)) yes, tt)

-- a struct of a pointer and an allocator, the body that moves one of them into another, and that which makes one with null
abbrev pair : Sym → Ty → Ty
pair name α = ty_struct name (tcons ty_ptr (tcons α tnil))

abbrev moves : Sym → Sym → Ty → Fn
moves from to α =
    record {
      lifetimes = 0;
      outlives = [];
      ty_params = [];
      givens = 0;
      params = 1;
      locals = local (pair to α) value_local ∷ local (pair from α) value_local ∷ local ty_ptr value_local ∷ local α value_local ∷ [];
      body =
          seq (assign (place 2 []) (rv_opd (copy (place 1 (field 0 ∷ [])))))
          (seq (assign (place 3 []) (rv_opd (copy (place 1 (field 1 ∷ [])))))
          (seq (assign (place 0 []) (aggregate (copy (place 2 []) ∷ copy (place 3 []) ∷ []))) return));
    }

abbrev nulls : Sym → Ty → Fn
nulls to α =
    record {
      lifetimes = 0;
      outlives = [];
      ty_params = [];
      givens = 0;
      params = 1;
      locals = local (pair to α) value_local ∷ local α value_local ∷ [];
      body = seq (assign (place 0 []) (aggregate (int w64 0 ∷ copy (place 1 []) ∷ []))) return;
    }

module _ (X : RattleType) (LX : Laws X) (h : Handle (boxed X LX)) {M : Type 1} {𝓤 : Ura M} (𝓛 : Logic 𝓤) (𝓣 : Tables 𝓤 𝓛.H) where
  open 𝓛 use {H}

  abbrev E : Bx
  E = boxed X LX

  -- what a box owns goes with its pointer and its allocator
  carries : (from to : Sym) (v : D E) (vs : List Val) (Post : Val → SProp 𝓤)
      → ((w : Val) → ent 𝓤 (sem 𝓛 ((B E).own_val v (w ∷ []))) (Post w))
      → ent 𝓤 (sem 𝓛 ((B E).own_val v vs)) (WpFn 𝓤 H 𝓣.C 𝓣.Λ (moves from to (α E.al)) (vs ++ []) Post)
  carries from to v vs Post ends =
      let fn = moves from to (α E.al) in
      qed 𝓛 (‵ ((B E).own_val v vs) ∷ []) ∵
      box_out E ! v vs (λ b o hv e ws fa. box_in E ! v b o v.value e refl $
      let w = word E hv b o in
      let Γ : List (Item 𝓤) = ‵ ((B E).own_val v (w ∷ [])) ∷ [] in
      by ! (subst (λ (us : List Val). ent 𝓤 (types.Kit.⋆ 𝓛 Γ) (WpFn 𝓤 H 𝓣.C 𝓣.Λ fn (us ++ []) Post)) (sym ws)
      (qed 𝓛 Γ ∵ enter ! 𝓣.C 𝓣.Λ fn (w ∷ []) _ $ alloc_all ! (λ ls. pass_all ! refl (box_typed E hv b o fa, tt) $
      sets ! (of_opd ! (get_in ! (fld ! refl (stop !)) (sub ! 0 refl (whole !)))) refl (tt, tt) $
      sets ! (of_opd ! (get_in ! (fld ! refl (stop !)) (sub ! 1 refl (whole !)))) refl fa $
      sets ! (agg ! (and_then ! (get ! refl) (and_then ! (get ! refl) (no_more !)))) refl (box_typed E hv b o fa) $ returns ! (look_at ! 0 refl) $
      free_all ! refl $ suffices ! _ (ends w) $ done !))))

  -- the handle of a box's parts
  abbrev kept_so : Clauses 𝓤 (ended h.parts h.row)
  kept_so = λ κs a. record { ghost = Unit {0}; requires = λ _. emp 𝓤; ensures = λ _ r _. fact 𝓤 (h.value r ≡ Some (h.given a.0)) }

  keeping : (z : (walk_of 𝓛 (ended h.parts h.row) (stays h.parts h.row) kept_so).Ghost)
      → ent 𝓤 ((walk_of 𝓛 (ended h.parts h.row) (stays h.parts h.row) kept_so).pre z)
      (WpFn 𝓤 H 𝓣.C 𝓣.Λ (moves h.parts_name h.name (α E.al)) (z.0.4.0 ++ []) ((walk_of 𝓛 (ended h.parts h.row) (stays h.parts h.row) kept_so).post z))
  keeping z =
      let p = z.0.3.0 in
      qed 𝓛 ((‵ ftrue ⊛ ‵ (fsep (h.parts.own_val p z.0.4.0) ftrue)) ∷ raw (emp 𝓤) ∷ []) ∵ split ! $ drop ! $ fsplit ! $ move ! (1 ∷ 2 ∷ []) $ drop ! $ drop ! $
      rewrite ! 0 (λ (P : Fml). ‵ P) (h.parts_own p z.0.4.0) refl $
      by ! (carries h.parts_name h.name (h.box_of p) z.0.4.0 ((walk_of 𝓛 (ended h.parts h.row) (stays h.parts h.row) kept_so).post z) (λ w.
      qed 𝓛 (‵ ((B E).own_val (h.box_of p) (w ∷ [])) ∷ []) ∵ rewrite ! 0 (λ (P : Fml). ‵ P) (sym (h.handle_owns p (w ∷ []))) refl $
      suffices ! _ (ends_at 𝓛 (ended h.parts h.row) (stays h.parts h.row) kept_so z w (h.handle_of p) (h.parts_last p, tt) (tt, tt)) $ says ! (h.keeps p) $
      nothing ! $ nothing ! $ fjoin ! $ join ! $ nothing ! $ join ! $ done !))

  pub keeps_box : Meets 𝓛 (ended h.parts h.row).signature (WpFn 𝓤 H 𝓣.C 𝓣.Λ (moves h.parts_name h.name (α E.al))) (closing 𝓛 (ended h.parts h.row) kept_so)
  keeps_box =
      walk_Meets 𝓛 (ended h.parts h.row) (stays h.parts h.row) (Goes-dropped 𝓛 0 (plain (λ _. h.parts)) yes (λ κs p f. h.parts_silent p f), tt) kept_so
      (WpFn 𝓤 H 𝓣.C 𝓣.Λ (moves h.parts_name h.name (α E.al))) (WpFn-mono 𝓤 H 𝓛.laws 𝓣 (moves h.parts_name h.name (α E.al))) keeping

  -- the parts of the box that a handle keeps
  abbrev given_so : Clauses 𝓤 (ended h.row h.parts)
  given_so =
      λ κs a. record { ghost = Unit {0}; requires = λ _. fact 𝓤 (h.value a.0 ≢ None); ensures = λ _ r _. fact 𝓤 (Some (h.given r) ≡ h.value a.0) }

  giving : (z : (walk_of 𝓛 (ended h.row h.parts) (stays h.row h.parts) given_so).Ghost) (held : Option X.Denot) → h.value z.0.3.0 ≡ held
      → ent 𝓤 ((walk_of 𝓛 (ended h.row h.parts) (stays h.row h.parts) given_so).pre z)
      (WpFn 𝓤 H 𝓣.C 𝓣.Λ (moves h.name h.parts_name (α E.al)) (z.0.4.0 ++ []) ((walk_of 𝓛 (ended h.row h.parts) (stays h.row h.parts) given_so).post z))
  giving z None is =
      qed 𝓛 ((‵ ftrue ⊛ ‵ (fsep (h.row.own_val z.0.3.0 z.0.4.0) ftrue)) ∷ raw (fact 𝓤 (h.value z.0.3.0 ≢ None)) ∷ []) ∵ move ! (1 ∷ []) $
      heard ! (h.value z.0.3.0 ≢ None) (λ not. absurd (not is))
  giving z (Some x) is =
      let d = z.0.3.0 in
      let p = h.parts_of d x in
      qed 𝓛 ((‵ ftrue ⊛ ‵ (fsep (h.row.own_val d z.0.4.0) ftrue)) ∷ raw (fact 𝓤 (h.value d ≢ None)) ∷ []) ∵ split ! $ drop ! $ fsplit ! $ move ! (1 ∷ 2 ∷ []) $
      drop ! $ drop ! $ rewrite ! 0 (λ (it : h.row.Denot). ‵ (h.row.own_val it z.0.4.0)) (h.is_kept d x is) refl $
      rewrite ! 0 (λ (P : Fml). ‵ P) (h.handle_owns p z.0.4.0) refl $
      by ! (carries h.name h.parts_name (h.box_of p) z.0.4.0 ((walk_of 𝓛 (ended h.row h.parts) (stays h.row h.parts) given_so).post z) (λ w.
      qed 𝓛 (‵ ((B E).own_val (h.box_of p) (w ∷ [])) ∷ []) ∵ rewrite ! 0 (λ (P : Fml). ‵ P) (sym (h.parts_own p (w ∷ []))) refl $
      suffices ! _ (ends_at 𝓛 (ended h.row h.parts) (stays h.row h.parts) given_so z w p (h.last d, tt) (tt, tt)) $ says ! (ap Some (h.gives d x) ∙ sym is) $
      nothing ! $ nothing ! $ fjoin ! $ join ! $ nothing ! $ join ! $ done !))

  pub gives_box : Meets 𝓛 (ended h.row h.parts).signature (WpFn 𝓤 H 𝓣.C 𝓣.Λ (moves h.name h.parts_name (α E.al))) (closing 𝓛 (ended h.row h.parts) given_so)
  gives_box =
      walk_Meets 𝓛 (ended h.row h.parts) (stays h.row h.parts) (Goes-dropped 𝓛 0 (plain (λ _. h.row)) yes (λ κs d f. h.silent d f), tt) given_so
      (WpFn 𝓤 H 𝓣.C 𝓣.Λ (moves h.name h.parts_name (α E.al))) (WpFn-mono 𝓤 H 𝓛.laws 𝓣 (moves h.name h.parts_name (α E.al))) (λ z. giving z (h.value z.0.3.0) refl)

  -- a handle with null beside the allocator
  abbrev null_so : Clauses 𝓤 (ended Heap.the_row h.row)
  null_so = λ κs a. record { ghost = Unit {0}; requires = λ _. emp 𝓤; ensures = λ _ r _. fact 𝓤 (h.value r ≡ None) }

  making : (z : (walk_of 𝓛 (ended Heap.the_row h.row) (stays Heap.the_row h.row) null_so).Ghost)
      → ent 𝓤 ((walk_of 𝓛 (ended Heap.the_row h.row) (stays Heap.the_row h.row) null_so).pre z)
      (WpFn 𝓤 H 𝓣.C 𝓣.Λ (nulls h.name (α E.al)) (z.0.4.0 ++ []) ((walk_of 𝓛 (ended Heap.the_row h.row) (stays Heap.the_row h.row) null_so).post z))
  making z =
      let fn = nulls h.name (α E.al) in
      let Post = (walk_of 𝓛 (ended Heap.the_row h.row) (stays Heap.the_row h.row) null_so).post z in
      let a = z.0.3.0 in
      qed 𝓛 ((‵ ftrue ⊛ ‵ (fsep (Heap.the_row.own_val a z.0.4.0) ftrue)) ∷ raw (emp 𝓤) ∷ []) ∵ split ! $ drop ! $ fsplit ! $ move ! (1 ∷ 2 ∷ []) $ drop ! $
      drop ! $
      handle_tells E.al ! a z.0.4.0 (λ hv ws fa.
      let w = vstruct (of_list (ptr_val null_ptr ∷ hv ∷ [])) in
      let Γ : List (Item 𝓤) = ‵ (Heap.the_row.own_val a (hv ∷ [])) ∷ [] in
      by ! (subst (λ (us : List Val). ent 𝓤 (types.Kit.⋆ 𝓛 Γ) (WpFn 𝓤 H 𝓣.C 𝓣.Λ fn (us ++ []) Post)) (sym ws)
      (qed 𝓛 Γ ∵ enter ! 𝓣.C 𝓣.Λ fn (hv ∷ []) _ $ alloc_all ! (λ ls. pass_all ! refl (fa, tt) $
      sets ! (agg ! (and_then ! (lit ! tt) (and_then ! (get ! refl) (no_more !)))) refl (and_tt _ fa.0, (record { fits = lit< tt }, (fa.1, tt))) $
      returns ! (look_at ! 0 refl) $ free_all ! refl $
      nothing ! $ move ! (1 ∷ 0 ∷ []) $ fjoin ! $ feq_i ! (List Val) (ptr_val null_ptr ∷ []) (ptr_val null_ptr ∷ []) refl $ fjoin ! $
      feq_i ! (List Val) (w ∷ []) (w ∷ []) refl $ fjoin ! $
      fpack ! (Valss (fields (owning E))) (within (shape (owning E)) (null_ptr, (a, tt)) (w ∷ [])) (ptr_val null_ptr ∷ [], (hv ∷ [], tt)) $
      nothing ! $ move ! (1 ∷ 0 ∷ []) $ fjoin ! $ use1 𝓛 (‵ (fsep ((Struct (shape (owning E))).own_val (null_ptr, (a, tt)) (w ∷ [])) ftrue)) (id⊢ 𝓤 _) $
      rewrite ! 0 (λ (P : Fml). ‵ P) (sym (h.null_owns a (w ∷ []))) refl $
      suffices ! _ (ends_at 𝓛 (ended Heap.the_row h.row) (stays Heap.the_row h.row) null_so z w (h.null_of a) (tt, tt) (tt, tt)) $ says ! (h.is_null a) $
      nothing ! $ nothing ! $ fjoin ! $ join ! $ nothing ! $ join ! $ done !))))

  pub makes_null : Meets 𝓛 (ended Heap.the_row h.row).signature (WpFn 𝓤 H 𝓣.C 𝓣.Λ (nulls h.name (α E.al))) (closing 𝓛 (ended Heap.the_row h.row) null_so)
  makes_null =
      walk_Meets 𝓛 (ended Heap.the_row h.row) (stays Heap.the_row h.row) (Goes-dropped 𝓛 0 (plain (λ _. Heap.the_row)) yes (λ κs x f. refl), tt) null_so
      (WpFn 𝓤 H 𝓣.C 𝓣.Λ (nulls h.name (α E.al))) (WpFn-mono 𝓤 H 𝓛.laws 𝓣 (nulls h.name (α E.al))) making
