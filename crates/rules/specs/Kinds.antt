-- Document 01, "Command kinds": their numbers, the kind of a command, and which kinds carry which numbers.
use Rattle.std.specs.Prelude.{Bool, ◌||◌, ℕ, eqb}
use Rattle.rules.specs.declared.Command.{Command}
use Rattle.rules.specs.declared.Command.TheVariants.{Comment, M48, Metric, Inch, Declare, Percent, G05, G00, Select, Hit, M15, M16, G01, G02, G03, M30}

abbrev pub comment : ℕ
comment = 0

abbrev pub m48 : ℕ
m48 = 1

abbrev pub metric : ℕ
metric = 2

abbrev pub inch : ℕ
inch = 3

abbrev pub declare : ℕ
declare = 4

abbrev pub percent : ℕ
percent = 5

abbrev pub g05 : ℕ
g05 = 6

abbrev pub g00 : ℕ
g00 = 7

abbrev pub select : ℕ
select = 8

abbrev pub hit : ℕ
hit = 9

abbrev pub m15 : ℕ
m15 = 10

abbrev pub m16 : ℕ
m16 = 11

abbrev pub g01 : ℕ
g01 = 12

-- clockwise
abbrev pub g02 : ℕ
g02 = 13

-- counter-clockwise
abbrev pub g03 : ℕ
g03 = 14

abbrev pub m30 : ℕ
m30 = 15

abbrev pub kind_of : Command → ℕ
kind_of Comment = comment
kind_of M48 = m48
kind_of Metric = metric
kind_of Inch = inch
kind_of (Declare t d) = declare
kind_of Percent = percent
kind_of G05 = g05
kind_of (G00 p) = g00
kind_of (Select t) = select
kind_of (Hit p) = hit
kind_of M15 = m15
kind_of M16 = m16
kind_of (G01 p) = g01
kind_of (G02 a) = g02
kind_of (G03 a) = g03
kind_of M30 = m30

abbrev pub is_comment : Command → Bool
is_comment c = eqb (kind_of c) comment

-- kinds that carry a tool number, a point, a radius, a diameter or radius
abbrev pub carries_tool : ℕ → Bool
carries_tool k = eqb k declare || eqb k select

abbrev pub carries_point : ℕ → Bool
carries_point k = eqb k g00 || (eqb k hit || (eqb k g01 || (eqb k g02 || eqb k g03)))

abbrev pub carries_radius : ℕ → Bool
carries_radius k = eqb k g02 || eqb k g03

abbrev pub carries_size : ℕ → Bool
carries_size k = eqb k declare || carries_radius k
