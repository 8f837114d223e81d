pub mod ProcedureLaws
