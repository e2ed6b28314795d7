mod ListedRows
