-- The layout and the tables of a laid image.
use Rattle.policy.specs.Layout.{Layout}
use Rattle.policy.specs.Tables.{Tables}
use Rattle.geometry.specs.Geometry.{layout_of, tables_of}
use Rattle.image.specs.declared.Image.{Image}

abbrev pub lay : Image → Layout
lay i = layout_of i.card

abbrev pub tables : Image → Tables
tables i = tables_of i.card i.bytes.now
