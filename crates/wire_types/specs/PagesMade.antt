-- A page to which rows are added.
use Rattle.std.specs.Prelude.{◌-◌, ◌++◌, ◌||◌, nat_lt, List, length, take, drop}
use Rattle.api_types.specs.declared.page.PageRow.{PageRow}
use Rattle.wire_types.specs.Pages.{page_size}
use Rattle.wire_types.specs.declared.pages.Making.{Making}

-- of further rows the page takes those that stand on it
abbrev pub with_rows : Making → List PageRow → Making
with_rows p rows = record {
  before = p.before - length rows;
  rows = p.rows ++ take (page_size - length p.rows) (drop p.before rows);
  more = p.more || nat_lt (page_size - length p.rows) (length (drop p.before rows));
}
