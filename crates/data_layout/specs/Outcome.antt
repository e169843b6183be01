-- What a program's entries come to: a layout where there is no fault, else the least fault.
--
-- The rows are those of the entries. They are determined by them, since a text spells one picture at most.
use Rattle.std.specs.Prelude.{◌≡◌, List, []}
use Rattle.data_layout.specs.declared.row.Row.{Row}
use Rattle.data_layout.specs.declared.row.Described.{Described}
use Rattle.data_layout.specs.declared.fault.LayoutFault.{LayoutFault}
use Rattle.data_layout.specs.declared.layout.Layout.{Layout}
use Rattle.data_layout.specs.Rows.{Section, AreAllRows, strays}
use Rattle.data_layout.specs.Faults.{layout_faults, IsLeast}
use Rattle.data_layout.specs.Layout.{IsLayout}

-- the layout of these sections, which have no fault
pub record IsLayoutOf (all : List Section) (layout : Layout) : Type 0 where
  pub rows : List Row
  pub texts : List Described
  pub read : AreAllRows 0 all rows texts
  pub faultless : layout_faults (strays all) rows ≡ []
  pub laid_out : IsLayout rows texts layout

-- the least fault of these sections
pub record IsFaultOf (all : List Section) (fault : LayoutFault) : Type 0 where
  pub rows : List Row
  pub texts : List Described
  pub read : AreAllRows 0 all rows texts
  pub least : IsLeast (layout_faults (strays all) rows) fault
