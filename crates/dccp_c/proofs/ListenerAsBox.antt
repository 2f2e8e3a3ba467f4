-- The handle of a listener, and the parts of its box.
use mathlib.Core.Path.{refl, ap}
use denote.RawPtr.{null_ptr}
use Rattle.std.specs.Prelude.{Option, Some, None}
use Rattle.std_heap.specs.contracts.Global as Heap
use Rattle.std_heap.specs.contracts.GlobalAllocator.TheImpl.{ghosts}
use Rattle.dccp_c.specs.Keeping.{InnerListener}
use Rattle.dccp_c.specs.contracts.serving.OwnedServer as OwnedServer
use Rattle.dccp_c.proofs.serving.OwnedServer.TheLaws as held
use Rattle.dccp_c.specs.contracts.kept.parts.Parts as Parts
use Rattle.dccp_c.specs.contracts.kept_listener.ListenerBox as ListenerBox
use Rattle.dccp_c.proofs.Handles.{Handle, boxed}

abbrev pub handle : Handle (boxed OwnedServer.the_row held.the_row_laws)
handle =
    record {
      name = ListenerBox.the_type.name;
      row = ListenerBox.the_row;
      parts_name = (Parts.the_type OwnedServer.the_row Heap.the_row ghosts).name;
      parts = Parts.the_row OwnedServer.the_row Heap.the_row ghosts;
      value = λ d. d.value;
      given = λ p. p.value;
      box_of = λ p. record { ptr = p.ptr; alloc = p.alloc; value = p.value };
      handle_of = λ p. record { ptr = p.ptr; alloc = p.alloc; value = Some p.value };
      parts_of = λ d x. record { ptr = d.ptr; alloc = d.alloc; value = x };
      null_of = λ a. record { ptr = null_ptr; alloc = a; value = None };
      keeps = λ p. refl;
      gives = λ d x. refl;
      is_null = λ a. refl;
      is_kept = λ d x is. ap (λ (held : Option InnerListener). record d { value = held }) is;
      parts_own = λ p vs. refl;
      handle_owns = λ p vs. refl;
      null_owns = λ a vs. refl;
      last = λ d. tt;
      silent = λ d f. refl;
      parts_last = λ p. tt;
      parts_silent = λ p f. refl;
    }
